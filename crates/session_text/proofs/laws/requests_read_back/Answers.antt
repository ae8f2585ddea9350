use Rattle.session_text.proofs.Requests.{requests_read_back}
use Rattle.session_text.proofs.laws.requests_read_back.Goals as goal

pub returns : goal.returns
returns c = requests_read_back
