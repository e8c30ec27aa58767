use Rattle.dr_like.proofs.Ways.{fits_of_found}
use Rattle.dr_like.proofs.laws.what_is_found_fits.Goals as goal

pub returns : goal.returns
returns c = fits_of_found
