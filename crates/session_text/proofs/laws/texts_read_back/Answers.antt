use Rattle.session_text.proofs.ReadBack.{texts_read_back}
use Rattle.session_text.proofs.laws.texts_read_back.Goals as goal

pub returns : goal.returns
returns c = texts_read_back
