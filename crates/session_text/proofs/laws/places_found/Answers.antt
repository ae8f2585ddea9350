use Rattle.session_text.proofs.Places.{places_found}
use Rattle.session_text.proofs.laws.places_found.Goals as goal

pub returns : goal.returns
returns c = places_found
