use Rattle.ks_parallel.proofs.Apart.{orders_leave_the_same}
use Rattle.ks_parallel.proofs.laws.orders_leave_the_same.Goals as goal

pub returns : goal.returns
returns c = orders_leave_the_same
