-- How far a chain of links goes.
use Rattle.std.specs.Prelude.{ℕ, ◌+◌}
use Rattle.bit_blocks.specs.declared.steps.Link.{Link, More', Same', TheVariants.Zero}

-- one for each link that says `More`
abbrev pub depth : Link → ℕ
depth Zero = 0
depth (More' _ _ before) = depth before + 1
depth (Same' _ _ before) = depth before
