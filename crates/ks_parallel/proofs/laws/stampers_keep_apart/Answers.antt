use Rattle.ks_parallel.proofs.Stamping.{stamp_orders_leave_the_same, stampers_are_apart, stampers_side_by_side, stamps_stay}
use Rattle.ks_parallel.proofs.laws.stampers_keep_apart.Goals as goal

pub returns : goal.returns
returns c = record { apart = stampers_are_apart; orders = stamp_orders_leave_the_same; stamps = stamps_stay; side_by_side = stampers_side_by_side }
