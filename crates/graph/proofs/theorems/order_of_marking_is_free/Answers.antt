use Rattle.graph.proofs.Order.{order-is-free, order-exists}
use Rattle.graph.proofs.theorems.order_of_marking_is_free.Goals as goal

pub returns : goal.returns
returns c = record { free = order-is-free; some = order-exists }
