use Rattle.std.proofs.Common.{◌≡◌, ap, sym, subst, ◌∙◌, Bool, ◌&&◌, List, ℤ}
use Rattle.std.specs.Prelude.{IsTrue, ◌↔◌}
use Rattle.std.proofs.lemmas.Bool.{eq-eqb}
use Rattle.guess_board.specs.Chains.{code_of, is_same_key, key_at}
use Rattle.guess_board.proofs.NeedLaws.{key_told}
use Rattle.unit_answers.specs.Keys.{StepKey}
use Rattle.unit_vm.specs.Programs.{program_words}
use Rattle.guess_board.proofs.needs.is_next.Goals as goal

pub returns-then-cell-row : goal.returns-then-cell-row
unfolding code_of
returns-then-cell-row c =
    let cell = c.args.cell.now in
    let one = c.args.one.now in
    let key : StepKey = key_at (code_of c.args.image.now.value) c.args.state.now cell in
    let wanted : List ℤ → StepKey = λ inputs. record {
      code = program_words c.args.image.now.value.program;
      state = c.args.state.now;
      inputs = inputs;
      time = cell.time;
      step = cell.step;
    } in
    let told : c.same_key.result ≡ is_same_key key one.key =
    key_told c.same_key.result key one.key
    (subst (λ inputs. IsTrue c.same_key.result ↔ (one.key ≡ wanted inputs)) c.as_slice.ensures c.same_key.ensures) in
    told ∙ sym (ap (λ (b : Bool). b && is_same_key key one.key) (eq-eqb cell.row one.row (c.if-cell-row.true ∙ c.row.ensures)))
