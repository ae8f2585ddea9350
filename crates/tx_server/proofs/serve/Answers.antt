use Rattle.tx_server.proofs.serve.Goals as goal

pub returns : goal.returns
returns g c = rw c.from.ensures c.start.ensures.served
