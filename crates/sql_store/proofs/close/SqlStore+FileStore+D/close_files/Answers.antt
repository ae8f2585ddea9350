use Rattle.sql_store.proofs.close.SqlStore+FileStore+D.close_files.Goals as goal

pub returns-clause-copied : goal.returns-clause-copied
returns-clause-copied g c = rw (← c.into_connection.ensures) c.close_files.ensures.copied

pub returns-clause-failed : goal.returns-clause-failed
returns-clause-failed g c = rw (← c.into_connection.ensures) c.close_files.ensures.err
