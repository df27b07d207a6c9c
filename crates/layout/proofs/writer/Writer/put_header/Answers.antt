use Rattle.std.proofs.Common.{◌≡◌, ℕ, ◌+◌, ◌-◌, List, ◌++◌, take, refl, ap, ◌∙◌, arith}
use Rattle.std.proofs.lemmas.List.{drop-drop}
use borrow.Rule.Slice.PartMut.{put_mid}
use Rattle.layout.specs.Layout.{header}
use Rattle.layout.proofs.writer.Writer.put_header.Goals as goal

pub returns : goal.returns
returns c =
    let at = c.args.self.now.at in
    let buffer = c.args.self.now.buffer.now in
    let e : at + 24 - at ≡ 24 = omega arith in
    record {
      wrote_header = record {
        ends_after = refl;
        writes_alone = ap (λ (n : ℕ). put_mid at n buffer c.copy_from_slice.new.self) e
            ∙ ap (put_mid at 24 buffer) c.copy_from_slice.ensures.after
            ∙ ap (λ (xs : List ℕ). take at buffer ++ (header ++ xs)) (drop-drop 24 at buffer);
        same_buffer = refl;
      };
    }
