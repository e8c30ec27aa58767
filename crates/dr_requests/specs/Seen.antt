-- What the values of the program say in the words of a script.
use Rattle.std.specs.Prelude.{ℕ, List}
use Rattle.std.specs.Borrow.{Bor}
use Rattle.dr_requests.specs.declared.request.Request.{Request}
use Rattle.dr_requests.specs.declared.request.Request.TheVariants.{Add, Seal, Join, Plan, Commit, Pin, Query, At, Audit, Image, Stats}

-- a request, with the bytes of its parts
abbrev pub seen_request : Request (Bor (List ℕ)) → Request (List ℕ)
seen_request (Add text) = Add text.now
seen_request (Seal instant) = Seal instant.now
seen_request (Join purpose instant lo hi) = Join purpose instant.now lo hi
seen_request (Plan purpose instant lo hi) = Plan purpose instant.now lo hi
seen_request (Commit number) = Commit number
seen_request Pin = Pin
seen_request (Query text) = Query text.now
seen_request (At number text) = At number text.now
seen_request (Audit text) = Audit text.now
seen_request (Image instant place) = Image instant.now place
seen_request Stats = Stats
