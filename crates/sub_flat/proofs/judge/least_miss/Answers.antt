use Rattle.std.proofs.Common.{◌∙◌, ap, sym}
use Rattle.nest_text.specs.declared.nest.Nest.{Nest}
use Rattle.sub_flat.proofs.JudgeLaws.{main_asked, main_left}
use Rattle.sub_flat.proofs.judge.least_miss.Goals as goal

pub returns-then-not-is_less : goal.returns-then-not-is_less
returns-then-not-is_less c =
    main_left c.args.names.now c.nest.result.now.main_line c.in_ok-least.least (ap (λ (one : Nest). one.main_line) c.nest.ensures) c.in_ok-least.ensures
    (sym c.is_less.ensures ∙ c.if-not-is_less.true)

pub returns : goal.returns
returns c =
    main_asked c.args.names.now c.nest.result.now.main_line c.in_ok-least.least c.kept.result c.main_misses_port.result
    (ap (λ (one : Nest). one.main_line) c.nest.ensures) c.in_ok-least.ensures (sym c.is_less.ensures ∙ c.if-not-is_less.false)
    c.main_misses_port.ensures c.kept.ensures
