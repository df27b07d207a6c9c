-- Nothing but graph files is taken.
use Rattle.std.proofs.Common.{◌≡◌, ℕ, zero, suc, ◌+◌, ◌-◌, ◌*◌, ◌<◌, ◌≤◌, Bool, true, false, cond, ◌&&◌, ◌||◌, eqb, ltb, leb, ◌⊎◌, List, [], ◌∷◌, ◌++◌, map, length, get_or, take, Option, Some, None, Ok, Err, Result, sym, refl, ap, ◌∙◌, subst, inl, inr, arith}
use Rattle.graph_laws.specs.Grammar.{AllRepeat, GraphFiles, TakesNothingElse, Repeats, file_lines, spoken}
use Rattle.graph_file.proofs.Passing.{never, passed, passed_after, passed_twice}
use Rattle.graph_file.specs.Files.{end_of, ends_of, file_of, here_of, judged, line_at, no_arc, or_refused, refused_at, with_arcs}
use Rattle.graph_file.specs.Steps.{arc_fits, same_ends, step}
use Rattle.graph_file.specs.declared.machine.Limits.{Limits}
use Rattle.graph_file.specs.declared.machine.Loaded.{Loaded}
use Rattle.refusal.specs.declared.Refusal.{Refusal}
use Rattle.refusal.specs.declared.Refusal.TheVariants.{Text}
use Rattle.network.specs.declared.tables.Road.{Road}
use Rattle.graph_file.specs.declared.machine.Progress.{Progress}
use Rattle.graph_file.proofs.Keep.{at}
use Rattle.graph_file.specs.declared.machine.Fault.{Fault}
use Rattle.graph_file.specs.declared.machine.Fault.TheVariants.{BadText, OverQuota}
use Rattle.graph_line.specs.Statements.{statements}
use Rattle.graph_line.specs.declared.Arc.{Arc}
use Rattle.graph_line.specs.declared.Statement.{Statement}
use Rattle.graph_line.specs.declared.Statement.TheVariants.{Comment, Problem, Crossing, BrokenProblem, Broken}
use Rattle.std.proofs.lemmas.List.{append-nil, append_assoc, get_or_at, get_or-take, length_push, take-append-le, take_at}
use Rattle.std.proofs.lemmas.Bool.{and_parts, eqb-true, eqb-false, leb-true, ltb-true, or_cases}
use Rattle.std.specs.List.{flat_map}

abbrev figures : ℕ → ℕ → ℕ → Loaded
figures n m f = record { nodes = n; roads = m; files = f }

abbrev ends : ℕ → ℕ → Road
ends t h = record { tail = t; head = h; first = 0; count = 0 }

abbrev Read : Type 0
Read = Loaded × List Arc

-- what an answer says of the tests before it
ended : (b : Bool) (bs all : List Arc) (r got : Loaded) (e : Refusal) → with_arcs bs (cond b (Ok r) (Err e)) ≡ Ok (got, all) → (b ≡ true) × (r ≡ got) × (bs ≡ all)
ended true bs all r got e h = let p : ◌≡◌ {A = Read} (r, bs) (got, all) = cc in (refl, ap (λ x. x.0) p, ap (λ x. x.1) p)
ended false bs all r got e h = never e (got, all) h

stepped : (file k : ℕ) (x : Result (Option Progress) Fault) (go : Option Progress → Result Read Refusal) (p : Read) → or_refused file k x go ≡ Ok p → (t : Option Progress) × (x ≡ Ok t) × (go t ≡ Ok p)
stepped file k (Ok t) go p h = (t, refl, h)
stepped file k (Err w) go p h = never (refused_at w file k) p h

-- the first file so far, or all of it
abbrev Known : ℕ → ℕ → ℕ → List Arc → Type 0
Known m f d bs = ((f ≡ 1) × (length bs ≡ d)) ⊎ ((1 < f) × (m ≤ length bs))

-- what is left of the text from a state on
record Rest (lim : Limits) (n m f d : ℕ) (bs all : List Arc) (ls : List Statement) (got : Loaded) : Type 0 where
  g : List Arc
  fs : List (List Arc)
  lines : spoken ls ≡ map Crossing g ++ flat_map (file_lines n m) fs
  arcs : all ≡ bs ++ (g ++ flat_map (λ x. x) fs)
  size : d + length g ≡ m
  figured : got ≡ figures n m (f + length fs)
  many : f + length fs ≤ 48
  room : m * (f + length fs) ≤ lim.points
  allowed : (j : ℕ) → j < length g → arc_fits n (get_or g j no_arc) ≡ true
  same : (j : ℕ) → j < length g → ends_of (get_or g j no_arc) ≡ ends_of (get_or (take m all) (d + j) no_arc)
  right : AllRepeat n m (take m all) fs

at_end : (lim : Limits) (n m f d k : ℕ) (bs all : List Arc) (got : Loaded) → f ≤ 48 → m * f ≤ lim.points → with_arcs bs (end_of (Some (at n m f d)) k) ≡ Ok (got, all) → Rest lim n m f d bs all [] got
at_end lim n m f d k bs all got u v h =
    let e = ended (eqb d m) bs all (figures n m f) got (Text (line_at f k)) h in
    let z : f ≡ f + 0 = omega arith in
    record {
      g = [];
      fs = [];
      lines = refl;
      arcs = sym e.2 ∙ sym (append-nil bs);
      size = omega (arith, eqb-true d m e.0);
      figured = sym e.1 ∙ ap (figures n m) z;
      many = omega arith;
      room = subst (λ x. m * x ≤ lim.points) z v;
      allowed = λ j l. absurd (omega arith);
      same = λ j l. absurd (omega arith);
      right = tt;
    }

-- a later p
at_size : (lim : Limits) (n m f d a b : ℕ) (bs all : List Arc) (ls : List Statement) (got : Loaded) → d ≡ m → a ≡ n → b ≡ m → Rest lim n m (f + 1) 0 bs all ls got → Rest lim n m f d bs all (Problem a b ∷ ls) got
at_size lim n m f d a b bs all ls got e p q r =
    let z : f + 1 + length r.fs ≡ f + suc (length r.fs) = omega arith in
    record {
      g = [];
      fs = r.g ∷ r.fs;
      lines = ap (λ x. Problem x b ∷ spoken ls) p ∙ ap (λ x. Problem n x ∷ spoken ls) q ∙ ap (λ x. Problem n m ∷ x) r.lines;
      arcs = r.arcs;
      size = omega (arith, e);
      figured = r.figured ∙ ap (figures n m) z;
      many = omega (arith, r.many);
      room = subst (λ x. m * x ≤ lim.points) z r.room;
      allowed = λ j l. absurd (omega arith);
      same = λ j l. absurd (omega arith);
      right = (record { size = omega (arith, r.size); allowed = r.allowed; ends = λ j l. let y : 0 + j ≡ j = omega arith in r.same j l ∙ ap (λ x. ends_of (get_or (take m all) x no_arc)) y }, r.right);
    }

-- an arc has the first file's ends at its place
here : (m f d : ℕ) (bs all : List Arc) (a : Arc) (more : List Arc) → d < m → Known m f d bs → all ≡ bs ++ a ∷ more → (eqb f 1 || same_ends (ends_of (get_or (take m bs) d no_arc)) a) ≡ true → ends_of a ≡ ends_of (get_or (take m all) d no_arc)
here m f d bs all a more l (inl k) e t =
    ap ends_of (sym (get_or_at bs a more no_arc d k.1) ∙ ap (λ xs. get_or xs d no_arc) (sym e) ∙ sym (get_or-take m all d no_arc l))
here m f d bs all a more l (inr k) e t =
    let w : take m all ≡ take m bs = ap (take m) e ∙ take-append-le m bs (a ∷ more) k.1 in
    let x = get_or (take m bs) d no_arc in
    elim (or_cases (eqb f 1) (same_ends (ends_of x) a) t) [
      | inl q ↦ let no : ⊥ = omega (arith, eqb-true f 1 q, k.0) in elim no [ ]
      | inr q ↦
          let p = and_parts (eqb (a.tail - 1) (x.tail - 1)) (eqb (a.head - 1) (x.head - 1)) q in
          ap (λ y. ends y (a.head - 1)) (eqb-true _ _ p.0) ∙ ap (λ y. ends (x.tail - 1) y) (eqb-true _ _ p.1) ∙ ap (λ xs. ends_of (get_or xs d no_arc)) (sym w)
    ]

all_more : (n : ℕ) (a : Arc) (g : List Arc) → arc_fits n a ≡ true → ((j : ℕ) → j < length g → arc_fits n (get_or g j no_arc) ≡ true) → (j : ℕ) → j < length (a ∷ g) → arc_fits n (get_or (a ∷ g) j no_arc) ≡ true
all_more n a g e h zero l = e
all_more n a g e h (suc j) l = h j (omega arith)

same_more : (d : ℕ) (a : Arc) (g first : List Arc) → ends_of a ≡ ends_of (get_or first d no_arc) → ((j : ℕ) → j < length g → ends_of (get_or g j no_arc) ≡ ends_of (get_or first (d + 1 + j) no_arc)) → (j : ℕ) → j < length (a ∷ g) → ends_of (get_or (a ∷ g) j no_arc) ≡ ends_of (get_or first (d + j) no_arc)
same_more d a g first e h zero l = let y : d ≡ d + 0 = omega arith in e ∙ ap (λ x. ends_of (get_or first x no_arc)) y
same_more d a g first e h (suc j) l = let y : d + 1 + j ≡ d + suc j = omega arith in h j (omega arith) ∙ ap (λ x. ends_of (get_or first x no_arc)) y

at_arc : (lim : Limits) (n m f d : ℕ) (bs all : List Arc) (a : Arc) (ls : List Statement) (got : Loaded) → d < m → arc_fits n a ≡ true → Known m f d bs → (eqb f 1 || same_ends (ends_of (get_or (take m bs) d no_arc)) a) ≡ true → Rest lim n m f (d + 1) (bs ++ a ∷ []) all ls got → Rest lim n m f d bs all (Crossing a ∷ ls) got
at_arc lim n m f d bs all a ls got l fit known t r =
    let e : all ≡ bs ++ a ∷ (r.g ++ flat_map (λ x. x) r.fs) = r.arcs ∙ append_assoc bs (a ∷ []) (r.g ++ flat_map (λ x. x) r.fs) in
    let first = here m f d bs all a (r.g ++ flat_map (λ x. x) r.fs) l known e t in
    record {
      g = a ∷ r.g;
      fs = r.fs;
      lines = ap (λ x. Crossing a ∷ x) r.lines;
      arcs = e;
      size = omega (arith, r.size);
      figured = r.figured;
      many = r.many;
      room = r.room;
      allowed = all_more n a r.g fit r.allowed;
      same = same_more d a r.g (take m all) first r.same;
      right = r.right;
    }

known_arc : (m f d : ℕ) (bs : List Arc) (a : Arc) → Known m f d bs → Known m f (d + 1) (bs ++ a ∷ [])
known_arc m f d bs a (inl k) = inl (k.0, length_push bs a ∙ omega (arith, k.1))
known_arc m f d bs a (inr k) = inr (k.0, omega (arith, length_push bs a, k.1))

known_size : (m f d : ℕ) (bs : List Arc) → d ≡ m → Known m f d bs → Known m (f + 1) 0 bs
known_size m f d bs e (inl k) = inr (omega (arith, k.0), omega (arith, k.1, e))
known_size m f d bs e (inr k) = inr (omega (arith, k.0), k.1)

rest : (lim : Limits) (n m f d k : ℕ) (bs all : List Arc) (ls : List Statement) (got : Loaded) → f ≤ 48 → m * f ≤ lim.points → Known m f d bs → judged lim (Some (at n m f d)) bs k ls ≡ Ok (got, all) → Rest lim n m f d bs all ls got
rest lim n m f d k bs all [] got u v known h = at_end lim n m f d k bs all got u v h
rest lim n m f d k bs all (Comment ∷ ls) got u v known h =
    let i = subst (λ xs. judged lim (Some (at n m f d)) xs (k + 1) ls ≡ Ok (got, all)) (append-nil bs) h in
    let r = rest lim n m f d (k + 1) bs all ls got u v known i in
    record { g = r.g; fs = r.fs; lines = r.lines; arcs = r.arcs; size = r.size; figured = r.figured; many = r.many; room = r.room; allowed = r.allowed; same = r.same; right = r.right }
rest lim n m f d k bs all (Problem a b ∷ ls) got u v known h =
    let s = stepped (file_of (Some (at n m f d)) (Problem a b)) k (step lim (Some (at n m f d)) (here_of (Some (at n m f d)) bs) (Problem a b)) (λ t. judged lim t (bs ++ []) (k + 1) ls) (got, all) h in
    let p = passed_twice (eqb d m && (eqb a n && eqb b m)) (ltb f 48 && leb (m * (f + 1)) lim.points) (Some (at n m (f + 1) 0)) s.0 OverQuota BadText s.1 in
    let q = and_parts (eqb d m) (eqb a n && eqb b m) p.0 in
    let o = and_parts (eqb a n) (eqb b m) q.1 in
    let w = and_parts (ltb f 48) (leb (m * (f + 1)) lim.points) p.1 in
    let x = ltb-true f 48 w.0 in
    let e = eqb-true d m q.0 in
    let i = subst (λ t. judged lim t (bs ++ []) (k + 1) ls ≡ Ok (got, all)) (sym p.2) s.2 in
    let y = subst (λ xs. judged lim (Some (at n m (f + 1) 0)) xs (k + 1) ls ≡ Ok (got, all)) (append-nil bs) i in
    at_size lim n m f d a b bs all ls got e (eqb-true a n o.0) (eqb-true b m o.1) (rest lim n m (f + 1) 0 (k + 1) bs all ls got (omega arith) (leb-true (m * (f + 1)) lim.points w.1) (known_size m f d bs e known) y)
rest lim n m f d k bs all (Crossing a ∷ ls) got u v known h =
    let s = stepped (file_of (Some (at n m f d)) (Crossing a)) k (step lim (Some (at n m f d)) (here_of (Some (at n m f d)) bs) (Crossing a)) (λ t. judged lim t (bs ++ a ∷ []) (k + 1) ls) (got, all) h in
    let x = ends_of (get_or (take m bs) d no_arc) in
    let p = passed (ltb d m && (arc_fits n a && (eqb f 1 || same_ends x a))) (Some (at n m f (d + 1))) s.0 BadText s.1 in
    let q = and_parts (ltb d m) (arc_fits n a && (eqb f 1 || same_ends x a)) p.0 in
    let o = and_parts (arc_fits n a) (eqb f 1 || same_ends x a) q.1 in
    let i = subst (λ t. judged lim t (bs ++ a ∷ []) (k + 1) ls ≡ Ok (got, all)) (sym p.1) s.2 in
    at_arc lim n m f d bs all a ls got (ltb-true d m q.0) o.0 known o.1 (rest lim n m f (d + 1) (k + 1) (bs ++ a ∷ []) all ls got u v (known_arc m f d bs a known) i)
rest lim n m f d k bs all (BrokenProblem ∷ ls) got u v known h = never (Text (line_at (file_of (Some (at n m f d)) BrokenProblem) k)) (got, all) h
rest lim n m f d k bs all (Broken ∷ ls) got u v known h = never (Text (line_at (file_of (Some (at n m f d)) Broken) k)) (got, all) h

-- the whole text
whole : (lim : Limits) (k : ℕ) (ls : List Statement) (got : Loaded) (all : List Arc) → judged lim None [] k ls ≡ Ok (got, all) → (first : List Arc) × (more : List (List Arc)) × GraphFiles lim ls got first more × (all ≡ flat_map (λ f. f) (first ∷ more))
whole lim k [] got all h = never (Text (line_at 1 k)) (got, all) h
whole lim k (Comment ∷ ls) got all h =
    let r = whole lim (k + 1) ls got all h in
    let g = r.2 in
    (r.0, r.1, record { consists = g.consists; count = g.count; many = g.many; some = g.some; nodes_fit = g.nodes_fit; roads_fit = g.roads_fit; points_fit = g.points_fit; right = g.right }, r.3)
whole lim k (Problem n m ∷ ls) got all h =
    let s = stepped (file_of None (Problem n m)) k (step lim None (here_of None []) (Problem n m)) (λ t. judged lim t [] (k + 1) ls) (got, all) h in
    let p = passed_after (eqb n 0) (leb n lim.nodes && (leb m lim.roads && leb m lim.points)) (Some (at n m 1 0)) s.0 OverQuota BadText s.1 in
    let q = and_parts (leb n lim.nodes) (leb m lim.roads && leb m lim.points) p.1 in
    let o = and_parts (leb m lim.roads) (leb m lim.points) q.1 in
    let i = subst (λ t. judged lim t [] (k + 1) ls ≡ Ok (got, all)) (sym p.2) s.2 in
    let w = leb-true m lim.points o.1 in
    let r = rest lim n m 1 0 (k + 1) [] all ls got (omega arith) (omega (arith, w)) (inl (refl, refl)) i in
    let c : n ≡ 0 → ⊥ = eqb-false n 0 p.0 in
    let t : take m all ≡ r.g = ap (take m) r.arcs ∙ take_at r.g (flat_map (λ f. f) r.fs) m (omega (arith, r.size)) in
    let Goal : Loaded → Type 0 = λ x. GraphFiles lim (Problem n m ∷ ls) x r.g r.fs in
    let head : Repeats n m r.g r.g = record { size = omega (arith, r.size); allowed = r.allowed; ends = λ j l. refl } in (
      r.g,
      r.fs,
      subst Goal (sym r.figured) (record {
        consists = ap (λ x. Problem n m ∷ x) r.lines;
        count = refl;
        many = r.many;
        some = positive n c;
        nodes_fit = leb-true n lim.nodes q.0;
        roads_fit = leb-true m lim.roads o.0;
        points_fit = r.room;
        right = (head, subst (λ x. AllRepeat n m x r.fs) t r.right);
      }),
      r.arcs,
    )
  where
    positive : (n : ℕ) → (n ≡ 0 → ⊥) → 1 ≤ n
    positive zero c = let no : ⊥ = c refl in elim no [ ]
    positive (suc n) c = omega arith
whole lim k (Crossing a ∷ ls) got all h = never (Text (line_at 1 k)) (got, all) h
whole lim k (BrokenProblem ∷ ls) got all h = never (Text (line_at 1 k)) (got, all) h
whole lim k (Broken ∷ ls) got all h = never (Text (line_at 1 k)) (got, all) h

pub takes_nothing_else : TakesNothingElse
takes_nothing_else lim text got arcs h = whole lim 1 (statements text) got arcs h
