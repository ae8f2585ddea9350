use Rattle.worker_pool.proofs.Reported.{has_cause, is_served}
use Rattle.worker_pool.proofs.serving.serve.Goals as goal

pub returns-in-Ok-serve_book-clause-ok : goal.returns-in-Ok-serve_book-clause-ok
returns-in-Ok-serve_book-clause-ok g c =
    is_served g.S.TopStore c.args.sessions c.args.store c.in-Ok.book c.in-Ok-serve_book.run'.0 c.in-Ok-serve_book.run'.1 c.in-Ok.ensures.ok c.in-Ok-serve_book.ensures.ok

pub returns-in-Ok-clause-err : goal.returns-in-Ok-clause-err
returns-in-Ok-clause-err g c =
    has_cause g.S.TopStore c.args.sessions c.args.store c.in-Ok.book c.args.workers c.in-Err-serve_book.fault c.let_go.result c.in-Err-serve_book.left c.in-Ok.ensures.ok
    c.in-Err-serve_book.ensures.off c.in-Err-serve_book.ensures.err c.let_go.ensures
