use Rattle.std.proofs.Common.{◌≡◌, ◌++◌, drop, map}
use Rattle.unit_names.specs.Found.{as_named}
use Rattle.unit_names.proofs.entries.put_all.Given as goal

abbrev pub invariant-loop-declaration : goal.invariant-loop-declaration
invariant-loop-declaration g l =
    map as_named l.entries.items ++ map g.D.Declaration.named_by (drop l.declaration-index l.declarations)
    ≡ map as_named l.fn.entries.items ++ map g.D.Declaration.named_by l.declarations
