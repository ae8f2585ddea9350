-- What is told where the system gives no words, for want of memory aside.
use Rattle.std.proofs.Common.{◌≡◌, refl}
use Rattle.std.specs.Prelude.{codes}
use Rattle.std.specs.declared.io.ErrorKind.{ErrorKind}
use Rattle.std.specs.declared.io.ErrorKind.TheVariants.{OutOfMemory}
use Rattle.line_language.specs.Report.{line}
use Rattle.asked_tasks.specs.Given.{line_of_no_words, status_of_no_words}

pub no_text : (why : ErrorKind) → (why ≡ OutOfMemory → ⊥)
    → (line_of_no_words why ≡ line (codes "tx: the command line is not text")) × (status_of_no_words why ≡ 2)
no_text OutOfMemory other = absurd (other refl)
no_text why other = (refl, refl)
