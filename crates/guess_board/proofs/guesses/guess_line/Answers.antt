use Rattle.std.proofs.Common.{◌≡◌, ◌+◌, ◌∙◌, ap, sym, refl, arith, length, true, false, add-one, ◌++◌, List, min, ◌-◌, Bool, if◌then◌else◌, []}
use Rattle.guess_board.specs.Guesses.{Inputs, cells_of_step, go_on, guessed_line, guessed_inputs, is_planned, planned_step, planned_time, seen_of}
use Rattle.guess_board.specs.declared.cell.Cell.{Cell}
use Rattle.guess_board.proofs.GuessLaws.{inputs_long, line_ends, reached, rises_from, time_more}
use Rattle.guess_board.proofs.guesses.guess_line.Goals as goal

pub returns-then-not-is_planned-clause-line : goal.returns-then-not-is_planned-clause-line
returns-then-not-is_planned-clause-line c =
    let policy = c.args.policy in
    let seen = seen_of c.args.seen in
    let l = c.loop-j in
    let r = c.requires.outlook in
    let n = length seen.last in
    let out : is_planned (planned_time seen l.j) seen.step seen.stop l.j ≡ false =
    ap (λ t. is_planned t seen.step seen.stop l.j) (sym l.invariant.t_is) ∙ sym c.is_planned.ensures ∙ c.if-not-is_planned.true in
    l.invariant.line_is ∙ sym (line_ends policy seen l.j c.args.window (omega arith) out)

pub returns-then-not-is_planned-clause-rises : goal.returns-then-not-is_planned-clause-rises
returns-then-not-is_planned-clause-rises c =
    let policy = c.args.policy in
    let seen = seen_of c.args.seen in
    let l = c.loop-j in
    let r = c.requires.outlook in
    let n = length seen.last in
    let fits = reached policy seen n l.j l.line.items l.invariant.line_is refl r.each_before r.each_low r.each_high r.stop in
    rises_from seen.row l.line.items (seen.row + l.j) fits.rises

pub returns-then-not-is_planned-clause-few : goal.returns-then-not-is_planned-clause-few
returns-then-not-is_planned-clause-few c =
    let policy = c.args.policy in
    let seen = seen_of c.args.seen in
    let l = c.loop-j in
    let r = c.requires.outlook in
    let n = length seen.last in
    let fits = reached policy seen n l.j l.line.items l.invariant.line_is refl r.each_before r.each_low r.each_high r.stop in
    omega (arith, fits.few)

pub returns-then-not-is_planned-clause-cells : goal.returns-then-not-is_planned-clause-cells
returns-then-not-is_planned-clause-cells c =
    let policy = c.args.policy in
    let seen = seen_of c.args.seen in
    let l = c.loop-j in
    let r = c.requires.outlook in
    let n = length seen.last in
    let fits = reached policy seen n l.j l.line.items l.invariant.line_is refl r.each_before r.each_low r.each_high r.stop in
    fits.cells

pub returns-clause-rises : goal.returns-clause-rises
returns-clause-rises c =
    let policy = c.args.policy in
    let seen = seen_of c.args.seen in
    let l = c.loop-j in
    let r = c.requires.outlook in
    let n = length seen.last in
    let fits = reached policy seen n l.j l.line.items l.invariant.line_is refl r.each_before r.each_low r.each_high r.stop in
    rises_from seen.row l.line.items (seen.row + l.j) fits.rises

pub returns-clause-few : goal.returns-clause-few
returns-clause-few c =
    let policy = c.args.policy in
    let seen = seen_of c.args.seen in
    let l = c.loop-j in
    let r = c.requires.outlook in
    let n = length seen.last in
    let fits = reached policy seen n l.j l.line.items l.invariant.line_is refl r.each_before r.each_low r.each_high r.stop in
    omega (arith, fits.few)

pub returns-clause-cells : goal.returns-clause-cells
returns-clause-cells c =
    let policy = c.args.policy in
    let seen = seen_of c.args.seen in
    let l = c.loop-j in
    let r = c.requires.outlook in
    let n = length seen.last in
    let fits = reached policy seen n l.j l.line.items l.invariant.line_is refl r.each_before r.each_low r.each_high r.stop in
    fits.cells

pub go_on-requires-clause-before_length : goal.go_on-requires-clause-before_length
go_on-requires-clause-before_length c =
    let policy = c.args.policy in
    let seen = seen_of c.args.seen in
    let l = c.loop-j in
    let r = c.requires.outlook in
    let n = length seen.last in
    let long = inputs_long policy seen n l.j refl r.each_before r.each_low r.each_high in
    let words : length l.words.items ≡ n = ap (λ (i : Inputs). length i.words) l.invariant.inputs ∙ long.words in
    let before : length l.before.items ≡ n = ap (λ (i : Inputs). length i.before) l.invariant.inputs ∙ long.before in
    before ∙ sym words

pub go_on-requires-clause-low_length : goal.go_on-requires-clause-low_length
go_on-requires-clause-low_length c =
    let policy = c.args.policy in
    let seen = seen_of c.args.seen in
    let l = c.loop-j in
    let r = c.requires.outlook in
    let n = length seen.last in
    let long = inputs_long policy seen n l.j refl r.each_before r.each_low r.each_high in
    let words : length l.words.items ≡ n = ap (λ (i : Inputs). length i.words) l.invariant.inputs ∙ long.words in
    let before : length l.before.items ≡ n = ap (λ (i : Inputs). length i.before) l.invariant.inputs ∙ long.before in
    r.each_low ∙ sym words

pub go_on-requires-clause-high_length : goal.go_on-requires-clause-high_length
go_on-requires-clause-high_length c =
    let policy = c.args.policy in
    let seen = seen_of c.args.seen in
    let l = c.loop-j in
    let r = c.requires.outlook in
    let n = length seen.last in
    let long = inputs_long policy seen n l.j refl r.each_before r.each_low r.each_high in
    let words : length l.words.items ≡ n = ap (λ (i : Inputs). length i.words) l.invariant.inputs ∙ long.words in
    let before : length l.before.items ≡ n = ap (λ (i : Inputs). length i.before) l.invariant.inputs ∙ long.before in
    r.each_high ∙ sym words

pub loop-j-preserved : goal.loop-j-preserved
loop-j-preserved c =
    let policy = c.args.policy in
    let seen = seen_of c.args.seen in
    let l = c.loop-j in
    let r = c.requires.outlook in
    let n = length seen.last in
    let on : is_planned (planned_time seen l.j) seen.step seen.stop l.j ≡ true =
    ap (λ t. is_planned t seen.step seen.stop l.j) (sym l.invariant.t_is) ∙ sym c.is_planned.ensures ∙ c.if-not-is_planned.false in
    let words : c.deref.result.now ≡ (guessed_inputs policy seen l.j).words = c.deref.ensures.value ∙ ap (λ (i : Inputs). i.words) l.invariant.inputs in
    let step : c.min-step.result ≡ planned_step seen l.j = c.min-step.ensures ∙ ap (λ t. min seen.step (seen.stop - t)) l.invariant.t_is in
    let here : List Cell = cells_of_step (seen.row + l.j) (planned_time seen l.j) (planned_step seen l.j) seen.factor (guessed_inputs policy seen l.j).words in
    let more : c.plan.new.line.items ≡ guessed_line policy seen l.j ++ here =
    c.in_ok-plan.ensures
    ∙ (λ i. l.invariant.line_is i ++ cells_of_step (seen.row + c.from.ensures i) (l.invariant.t_is i) (step i) seen.factor (words i)) in
    record {
      line_is = more ∙ sym (ap (λ (b : Bool). guessed_line policy seen l.j ++ (if b then here else [])) on)
          ∙ ap (guessed_line policy seen) (sym (add-one l.j));
      inputs = c.in_ok-go_on.ensures ∙ ap (go_on policy seen.low seen.high) l.invariant.inputs ∙ ap (guessed_inputs policy seen) (sym (add-one l.j));
      t_is = ap (λ t. t + seen.step) l.invariant.t_is ∙ sym (time_more seen l.j) ∙ ap (planned_time seen) (sym (add-one l.j));
    }
