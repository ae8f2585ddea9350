-- The law of whole texts.
use Rattle.std.proofs.Common.{ap, ◌∙◌}
use Rattle.session_text.specs.Texts.{sessions_of}
use Rattle.session_text.specs.Laws.{TextsReadBack}
use Rattle.session_text.proofs.WholeTexts.{text_reads, text_again}

pub texts_read_back : TextsReadBack
texts_read_back bs ss = (text_reads bs ss, λ h. ap sessions_of h.1 ∙ text_again ss h.0)
