use Rattle.std.proofs.Common.{ℕ, ◌-◌, ◌*◌, ◌≤◌, sym, subst}
use Rattle.corridor.proofs.Scan.{seen_more}
use Rattle.corridor.proofs.next.Scan.pass.Goals as goal

pub returns : goal.returns
returns c =
    let Low : ℕ → ℕ → ℕ → Type 0 = λ n m v. v * m ≤ n * (c.args.s - c.args.self.now.from.departure) in
    let meet = c.meet.ensures in
    let rise = c.saturating_sub.ensures in
    record {
      seen_one_more = seen_more _ _ _ _ _ c.requires.seen c.requires.place.later c.meet.result
          (λ n m p h. let both = meet.admits_both n m p h in (both.0, (subst (Low n m) rise both.1.0, both.1.1)))
          (λ n m p h k. meet.admits_each n m p h (subst (Low n m) (sym rise) k.0, k.1));
    }
