-- How long fields and lines are.
use Rattle.std.proofs.Common.{◌≡◌, ℕ, ◌+◌, ◌++◌, length, decimal, arith}
use Rattle.curve.specs.declared.points.Point.{Point}
use Rattle.layout.specs.Layout.{field, line_text}
use Rattle.std.proofs.lemmas.List.{length-append, length_push}

pub field_length : (n mark : ℕ) → length (field n mark) ≡ length (decimal n) + 1
field_length n mark = length_push (decimal n) mark

pub line_length : (node : ℕ) (p : Point) → length (line_text node p) ≡ length (field node 44) + length (field p.departure 44) + length (field p.arrival 13) + 1
line_length node p =
    let f = field node 44 in
    let g = field p.departure 44 in
    let h = field p.arrival 13 in
    omega (arith, length_push ((f ++ g) ++ h) 10, length-append (f ++ g) h, length-append f g)
