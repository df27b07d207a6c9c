-- Where a scan stands, and what it has found.
use Rattle.std.specs.Prelude.{ℕ, ◌+◌, ◌<◌, ◌≤◌, length}
use Rattle.corridor.specs.Corridor.{Next}
use Rattle.corridor.specs.Curves.{curve_of}
use Rattle.corridor.specs.Funnels.{Seen}
use Rattle.corridor.specs.declared.next.Scan.{Scan}

-- the scan comes to minute s
pub record Scanning (scan : Scan) (s : ℕ) : Type 0 where
  pub later : scan.from.departure < s
  pub inside : s < length scan.bounds.lo.now
  pub low : scan.from.arrival ≤ curve_of scan.bounds.up.now s

-- the scan has seen the minutes before s, and where there are any, its best point is the next as far as these
pub record Scanned (scan : Scan) (s : ℕ) : Type 0 where
  pub seen : Seen (curve_of scan.bounds.lo.now) (curve_of scan.bounds.up.now) scan.from s scan.funnel
  pub known : scan.from.departure + 1 < s → Next (curve_of scan.bounds.lo.now) (curve_of scan.bounds.up.now) s scan.from scan.best
