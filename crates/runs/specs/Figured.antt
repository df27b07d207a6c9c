-- Figures that a sheet may have.
use Rattle.std.specs.Prelude.{◌≡◌, ℕ, ◌+◌, ◌<◌, ◌≤◌, Bool, true, ◌&&◌, Some, None, Option, nat_le, nat_lt}
use Rattle.std.proofs.Common.{arith}
use Rattle.std.proofs.lemmas.Bool.{and_parts, ltb-true, leb-true}
use Rattle.runs.specs.declared.Figures.{Figures}

-- 1 to 1,024 nodes and at most 4,096 roads, as a network has them
abbrev pub sized : Figures → Bool
sized f = nat_le 1 f.nodes && (nat_le f.nodes 1024 && nat_le f.roads 4096)

-- a window of 1 to 1,440, places for 2 to window + 1 points, an allowance of at most 10,000
abbrev pub ruled : ℕ → ℕ → ℕ → Bool
ruled window places allowance = nat_le 1 window && (nat_le window 1440 && (nat_le 2 places && (nat_le places (window + 1) && nat_le allowance 10000)))

-- an origin is a node
abbrev pub placed : Option ℕ → ℕ → Bool
placed None n = true
placed (Some o) n = nat_lt o n

abbrev pub right : Figures → Bool
right f = sized f && (ruled f.window f.places f.allowance && placed f.origin f.nodes)

-- the same figures with the origin v
abbrev pub with_origin : Figures → ℕ → Figures
with_origin f v = record { nodes = f.nodes; roads = f.roads; window = f.window; places = f.places; allowance = f.allowance; origin = Some v }

-- the same, as facts
pub record Right (f : Figures) : Type 0 where
  pub some : 1 ≤ f.nodes
  pub few : f.nodes ≤ 1024
  pub paved : f.roads ≤ 4096
  pub window : 1 ≤ f.window
  pub day : f.window ≤ 1440
  pub places : 2 ≤ f.places
  pub most : f.places ≤ f.window + 1
  pub allowance : f.allowance ≤ 10000
  pub inside : (o : ℕ) → f.origin ≡ Some o → o < f.nodes

placed_tells : (a : Option ℕ) (n : ℕ) → placed a n ≡ true → (o : ℕ) → a ≡ Some o → o < n
placed_tells None n e o is = let z : ◌≡◌ {A = ℕ} 0 1 = cc in absurd (omega arith)
placed_tells (Some q) n e o is = let z : q ≡ o = cc in omega (arith, ltb-true q n e)

pub right_tells : (f : Figures) → right f ≡ true → Right f
right_tells f e =
    let a = and_parts _ _ e in
    let s = and_parts _ _ a.0 in let s' = and_parts _ _ s.1 in
    let b = and_parts _ _ a.1 in
    let r = and_parts _ _ b.0 in let r' = and_parts _ _ r.1 in let r'' = and_parts _ _ r'.1 in let r''' = and_parts _ _ r''.1 in
    record {
      some = leb-true _ _ s.0;
      few = leb-true _ _ s'.0;
      paved = leb-true _ _ s'.1;
      window = leb-true _ _ r.0;
      day = leb-true _ _ r'.0;
      places = leb-true _ _ r''.0;
      most = leb-true _ _ r'''.0;
      allowance = leb-true _ _ r'''.1;
      inside = placed_tells f.origin f.nodes b.1;
    }
