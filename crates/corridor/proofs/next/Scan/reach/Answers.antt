use Rattle.std.proofs.Common.{refl, inl, inr}
use Rattle.corridor.proofs.Scan.{serves_if, serves_only}
use Rattle.corridor.proofs.Rule.{next_here, next_on}
use Rattle.corridor.proofs.next.Scan.reach.Goals as goal

pub returns-then-fits : goal.returns-then-fits
returns-then-fits c =
    let later = c.requires.place.later in
    record { next_to_here = next_here _ _ _ _ later _ (serves_if _ _ _ _ _ c.requires.scanned.seen later _ c.if-fits.ensures.fits_or_not) (inl refl) }

pub returns-then-fits-2 : goal.returns-then-fits-2
returns-then-fits-2 c =
    let later = c.requires.place.later in
    record {
      next_to_here = next_here _ _ _ _ later _ (serves_if _ _ _ _ _ c.requires.scanned.seen later _ c.if-fits-2.ensures.fits_or_not)
          (inr (refl, λ h. c.if-fits.ensures.fits_or_not (serves_only _ _ _ _ _ c.requires.scanned.seen later _ h)));
    }

pub returns-else-fits-2 : goal.returns-else-fits-2
returns-else-fits-2 c =
    let later = c.requires.place.later in
    record {
      next_to_here = next_on _ _ _ _ later c.requires.place.low _ c.requires.scanned.known
          (λ h. c.if-fits.ensures.fits_or_not (serves_only _ _ _ _ _ c.requires.scanned.seen later _ h))
          (λ h. c.if-fits-2.ensures.fits_or_not (serves_only _ _ _ _ _ c.requires.scanned.seen later _ h));
    }
