use Rattle.std.proofs.Common.{Some}
use Rattle.worker_pool.proofs.serving.serve.Given as goal

-- what was known when the book was opened
abbrev pub ghosts-serve_book : goal.ghosts-serve_book
ghosts-serve_book g a = record { first = Some a.book }
