use Rattle.worker_pool.proofs.Reported.{if_of_work}
use Rattle.worker_pool.proofs.serving.serve_book.Goals as goal

pub returns-clause-err : goal.returns-clause-err
returns-clause-err g c = if_of_work c.args.workers c.work_through-worked.result c.into_report.result c.work_through-worked.ensures c.into_report.ensures.err
