-- Bytes that stand for line orders.
use Rattle.std.specs.Prelude.{ℕ, cond, Some, None, Option, ◌==◌}
use Rattle.blocks.specs.declared.line_order.LineOrder.{LineOrder}
use Rattle.blocks.specs.declared.line_order.LineOrder.TheVariants.{Increasing, Decreasing, Unspecified}

-- what a byte stands for where it names a case; any other byte can't be read
abbrev pub line_order : ℕ → Option LineOrder
line_order b = cond (b == 0) (Some Increasing) (cond (b == 1) (Some Decreasing) (cond (b == 2) (Some Unspecified) None))
