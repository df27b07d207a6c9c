-- From the corridor that the code has reckoned to the corridor of the rule.
use Rattle.std.proofs.Common.{◌≡◌, ℕ, ◌+◌, ◌*◌, ◌<◌, ◌≤◌, Bool, true, false, cond, List, [], ◌∷◌, length, get_or, take, replicate, sym, refl, ap, ◌∙◌, subst, arith}
use Rattle.std.proofs.lemmas.List.{length-take-le, length-replicate}
use Rattle.curve.specs.declared.points.Point.{Point}
use Rattle.curve.specs.Curve.{no_point, reads}
use Rattle.corridor.specs.Corridor.{Corridor}
use Rattle.corridor.specs.Curves.{Curves, curve_of, last}
use Rattle.corridor.specs.Curves as curves
use Rattle.corridor.proofs.Laws.{laws as corridor_laws}
use Rattle.network.specs.Net.{Net, Lawful}
use Rattle.rows.specs.Rows.{points, laid_back}
use Rattle.runs.specs.declared.Figures.{Figures}
use Rattle.runs.specs.Ready.{Ready, Asked}
use Rattle.runs.specs.Sheet.{state, label, labelled, at, lo, up}
use Rattle.runs.specs.Turns.{Replaced, Relaxed, changed, Filled}
use Rattle.runs.proofs.Keeping.{ordered, up_mono, up_high, lo_low, latest_bound}
use Rattle.worklist.specs.Work.{Work}
use Rattle.relaxing.specs.Labels.{Relabelled}

-- the first places of the memory of a curve, one for each departure
pub lent_long : (w H : ℕ) (ys : List ℕ) → w ≡ H → H ≤ 1440 → length ys ≡ length (take (w + 1) (replicate {A = ℕ} 1441 0)) → length ys ≡ H + 1
lent_long w H ys is day e = e ∙ length-take-le (w + 1) (replicate 1441 0) (omega (arith, is, day, length-replicate {A = ℕ} 1441 0)) ∙ omega (arith, is)

module _ (net : Net) (laws : Lawful net) (f : Figures) (rows : List ℕ) (ready : Ready net f rows) (r : ℕ) (road : r < net.roads) (some : labelled f rows (net.tail r) ≡ true) (ls us : List ℕ) (l_long : length ls ≡ f.window + 1) (u_long : length us ≡ f.window + 1) (asked : Asked net f rows r ls us) where
  abbrev H : ℕ
  H = f.window

  last_is : last ls ≡ H
  last_is = omega (arith, l_long)

  pub asked_curves : Curves ls us
  asked_curves =
      let is = last_is in
      record {
        same = omega (arith, l_long, u_long);
        some = omega (arith, l_long);
        short = omega (arith, l_long, ready.right.day);
        ordered = λ t le. omega (arith, asked.low t (omega (arith, le)), asked.high t (omega (arith, le)), ordered net laws f ready.right ready.nodes rows ready.laid r road some t (omega (arith, le)));
        rising = λ t u le end. omega (arith, asked.high t (omega (arith, le, end)), asked.high u (omega (arith, end)), up_mono net laws f ready.right ready.nodes rows ready.laid r road some t u le (omega (arith, end)));
        small = λ t le. omega (arith, asked.high t (omega (arith, le)), up_high net laws f ready.right ready.nodes rows ready.laid r road some t (omega (arith, le)), latest_bound f rows ready.right, one_or_none (labelled f rows (net.head r)));
      }
    where
      one_or_none : (b : Bool) → 20000 * cond b 0 1 ≤ 20000
      one_or_none true = omega arith
      one_or_none false = omega arith

  to_rule : (ps : List Point) → curves.Label ls us ps → Corridor (lo net f rows r) (up net f rows r) H ps
  to_rule ps c =
      corridor_laws.label_like (curve_of ls) (curve_of us) (lo net f rows r) (up net f rows r) H ps (λ t le. asked.low t le) (λ t le. asked.high t le)
      (subst (λ (h : ℕ). Corridor (curve_of ls) (curve_of us) h ps) last_is c)

  from_rule : (ps : List Point) → Corridor (lo net f rows r) (up net f rows r) H ps → curves.Label ls us ps
  from_rule ps c =
      subst (λ (h : ℕ). Corridor (curve_of ls) (curve_of us) h ps) (sym last_is)
      (corridor_laws.label_like (lo net f rows r) (up net f rows r) (curve_of ls) (curve_of us) H ps (λ t le. sym (asked.low t le)) (λ t le. sym (asked.high t le)) c)

  -- a label begins at the corridor's lower curve
  begins : (ps : List Point) → Corridor (lo net f rows r) (up net f rows r) H ps → (get_or ps 0 no_point).arrival ≡ lo net f rows r 0
  begins [] c = absurd c
  begins (p ∷ ps) c = ap (λ (q : Point). q.arrival) c.0

  module _ (rows' : List ℕ) (x : Relabelled f rows (net.head r) ls us rows') where
    abbrev rule : Corridor (lo net f rows r) (up net f rows r) H x.new
    rule = to_rule x.new x.label

    pub replaces : Replaced net f rows r rows'
    replaces = record {
      size = x.rewritten.size;
      others = x.rewritten.others;
      past = x.rewritten.past;
      new = x.new;
      corridor = rule;
      fits = x.fits;
      own = x.rewritten.own;
    }

    -- the key: what the new label reads at departure 0
    pub first_key : get_or ls 0 0 ≡ at f rows' (net.head r) 0
    first_key =
        let spans = corridor_laws.label_spans (lo net f rows r) (up net f rows r) H x.new rule in
        let exact = corridor_laws.label_exact (lo net f rows r) (up net f rows r) H x.new (ordered net laws f ready.right ready.nodes rows ready.laid r road some) (lo_low net laws f ready.right ready.nodes rows ready.laid r road some H) rule 0 spans.some in
        let at_0 : reads x.new 0 ≡ (get_or x.new 0 no_point).arrival = subst (λ (t : ℕ). reads x.new t ≡ (get_or x.new 0 no_point).arrival) spans.first exact in
        let lab : label f rows' (net.head r) ≡ x.new = ap points x.rewritten.own ∙ laid_back f.places x.new in
        asked.low 0 (omega arith) ∙ sym (begins x.new rule) ∙ sym at_0 ∙ sym (ap (λ (ps : List Point). reads ps 0) lab)

    pub relaxes_by : {L : Type 0} (w : Work L) (ms : List ℕ) (l l' : L) → w.puts l (net.head r) (get_or ls 0 0) l' → Relaxed w net (state f rows ms l) r (state f rows' ms l')
    relaxes_by w ms l l' put = changed (record {
      needed = asked.needed;
      heading = refl;
      marks = refl;
      replaced = replaces;
      put = subst (λ (k : ℕ). w.puts l (net.head r) k l') first_key put;
    })

  -- the same, by the number that the code has for the head
  pub relaxes_at : {L : Type 0} (w : Work L) (ms : List ℕ) (l l' : L) (rows' : List ℕ) (head : ℕ) → head ≡ net.head r → Relabelled f rows head ls us rows' → w.puts l head (get_or ls 0 0) l'
      → Relaxed w net (state f rows ms l) r (state f rows' ms l')
  relaxes_at w ms l l' rows' head is x put =
      relaxes_by rows' (subst (λ (v : ℕ). Relabelled f rows v ls us rows') is x) w ms l l' (subst (λ (v : ℕ). w.puts l v (get_or ls 0 0) l') is put)

  pub fills_by : {L : Type 0} (ms : List ℕ) (l : L) (rows' : List ℕ) → ((ps : List Point) → curves.Label ls us ps → f.places < length ps) → rows' ≡ rows → Filled net (state f rows ms l) r (state f rows' ms l)
  fills_by {L} ms l rows' long same = record {
    full_at = record { needed = asked.needed; long = λ ps c. long ps (from_rule ps c) };
    same = ap (λ (rs : List ℕ). state f rs ms l) same;
  }
