-- The text of a book.
use Rattle.std.specs.Prelude.{ℕ, ◌+◌, List, [], ◌∷◌, ◌++◌, codes, decimal}
use Rattle.curve.specs.declared.points.Point.{Point}
use Rattle.std.specs.List.{flat_map}

-- the first line; every line ends in a carriage return, 13, and a line feed, 10
abbrev pub header : List ℕ
header = codes "node,departure,arrival" ++ (13 ∷ 10 ∷ [])

-- a number and the mark after it
abbrev pub field : ℕ → ℕ → List ℕ
field n mark = decimal n ++ (mark ∷ [])

-- NODE,DEPARTURE,ARRIVAL and the end of the line; 44 is a comma
abbrev pub line_text : ℕ → Point → List ℕ
line_text node p = ((field node 44 ++ field p.departure 44) ++ field p.arrival 13) ++ (10 ∷ [])

-- the lines of a node
abbrev pub row_text : ℕ → List Point → List ℕ
row_text node points = flat_map (line_text node) points

-- the lines of the nodes from one on
abbrev pub body_text : ℕ → List (List Point) → List ℕ
body_text node [] = []
body_text node (r ∷ rs) = row_text node r ++ body_text (node + 1) rs

-- the whole book: nodes are counted from 1
abbrev pub layout : List (List Point) → List ℕ
layout rows = header ++ body_text 1 rows
