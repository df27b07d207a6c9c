-- The laws of whole routes, from those of the roads.
use Rattle.std.proofs.Common.{arith}
use Rattle.network.specs.Net.{Net, Lawful}
use Rattle.network.specs.Routes.{stay, then, arrival, KeepsOrder, KeepsPace}

pub keeps_order : (net : Net) → Lawful net → KeepsOrder net
keeps_order net l isOpen o v j stay t u h = h
keeps_order net l isOpen o v j (then ρ r a b c) t u h =
    l.order r (arrival ρ t) (arrival ρ u) a (keeps_order net l isOpen o _ _ ρ t u h)

pub keeps_pace : (net : Net) → Lawful net → KeepsPace net
keeps_pace net l isOpen o v j stay t = (omega arith, omega arith)
keeps_pace net l isOpen o v j (then ρ r a b c) t =
    let p = keeps_pace net l isOpen o _ _ ρ t in
    let low = l.early r (arrival ρ t) a in
    let some = l.takes r a in
    let high = l.late r (arrival ρ t) a in
    (omega arith, omega arith)
