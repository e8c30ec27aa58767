use Rattle.dr_like.proofs.Ways.{found_of_fits}
use Rattle.dr_like.proofs.laws.what_fits_is_found.Goals as goal

pub returns : goal.returns
returns c = found_of_fits
