-- Where a weight stands, and where it goes.
use Rattle.std.proofs.Common.{ℕ, ◌+◌, ◌*◌, ◌/◌, ◌%◌, ◌^◌, ◌<◌, ◌≤◌, mul-le-mul_right, mod-lt, div-lt_iff_lt-mul, mul-le-mul_left, arith}
use Rattle.graph_file.specs.Placing.{place_of}

-- file by file there is room for all that there is room for road by road
pub place_below : (roads files k : ℕ) → 1 ≤ files → k < roads * files → place_of roads files k < roads * files
place_below roads files k s l =
    let i : k % files < files = mod-lt k (omega arith) in
    let r : k / files < roads = (div-lt_iff_lt-mul {k = files} {x = k} {y = roads} (omega arith)).1 l in
    let m : (k % files + 1) * roads ≤ files * roads = mul-le-mul_right roads (omega arith) in
    omega arith

-- and it is a small number
pub place_small : (roads files k : ℕ) → 1 ≤ files → files ≤ 48 → roads ≤ 4096 → k < roads * files → place_of roads files k < 2 ^ 32
place_small roads files k s t u l =
    let p = place_below roads files k s l in
    let m : roads * files ≤ roads * 48 = mul-le-mul_left roads t in
    omega arith
