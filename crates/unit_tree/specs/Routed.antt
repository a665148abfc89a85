-- What is known of an order.
use Rattle.unit_tree.specs.Routes.{Ordered, IsOrdered}
use Rattle.unit_tree.specs.declared.order.Order.TheInside.{Inside}

abbrev pub ordered : Inside → Ordered
ordered order = record { places = order.places; routes = order.routes }

abbrev pub IsRouted : Inside → Type 0
IsRouted order = IsOrdered (ordered order)
