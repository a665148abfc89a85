use Rattle.std.proofs.Common.{◌≡◌, ◌∙◌, ◌-◌, ◌∷◌, ◌++◌, length, take, drop, Some, None, ap, sym, append-nil, rules}
use Rattle.guess_board.specs.Cells.{FitsCell}
use Rattle.guess_board.specs.Chains.{chain_of, code_of, whole_state}
use Rattle.guess_board.proofs.WorkLaws.{after_long, behind_fit, behind_is_after, behind_is_none, front_on, no_cells, none_appended, none_left}
use Rattle.list_laws.proofs.Options.{on_err}
use Rattle.guess_board.proofs.WorkLaws.{step_chain}
use Rattle.guess_board.proofs.WorkLaws.{whole_on}
use Rattle.std.specs.Option.{option_map}
use Rattle.guess_board.proofs.working.+append_chain.Goals as goal

pub returns-in_default-clause-whole : goal.returns-in_default-clause-whole
returns-in_default-clause-whole t c =
    let none = no_cells c.args.cells.now c.in_default.len_below in
    sym (append-nil c.args.answers.now.items)
    ∙ ap (λ all. c.args.answers.now.items ++ all)
    (sym (ap (chain_of (code_of c.args.image.now.value) c.args.state.now) none ∙ none_left (code_of c.args.image.now.value) c.args.state.now))

pub returns-in_err-push-clause-front : goal.returns-in_err-push-clause-front
returns-in_err-push-clause-front t c =
    on_err c.from_residual-in_err-push.result
    (none_appended c.args.answers.now.items c.push.new.self.items (chain_of (code_of c.args.image.now.value) c.args.state.now c.args.cells.now)
    c.in_err-push.ensures.items)

pub append_chain-requires : goal.append_chain-requires
append_chain-requires t c =
    let one = c.in_ok-one.one in
    let after : whole_state one ≡ Some c.in-Some.state.items = sym c.in_ok-after.ensures ∙ ap (option_map (λ state. state.items)) c.in-Some.is in
    let key : length one.key.state ≡ length c.args.state.now = ap (λ key. length key.state) c.in_ok-one.ensures.key in (
      search (rules),
      (
        ap (λ image. image.program) c.prove.ensures.image ∙ c.requires.code,
        (
          ap length c.deref.ensures.value ∙ after_long one c.in-Some.state.items c.args.image.now.value.program.sizes.states c.answer.ensures.proven after
              (key ∙ c.requires.each_state),
          behind_fit (FitsCell c.args.image.now.value.program.sizes.inputs) c.args.cells.now c.in-len1-up.len_at_least c.requires.cells,
        ),
      ),
    )

pub returns-in-Some-clause-whole : goal.returns-in-Some-clause-whole
returns-in-Some-clause-whole t c =
    let one = c.in_ok-one.one in
    let code = code_of c.args.image.now.value in
    let others = take (length c.args.cells.now - 1) (drop 1 c.args.cells.now) in
    let chain = step_chain c.args.image.now.value c.args.state.now c.as_slice.result.now c.args.cells.now c.cell-item.result one c.in-len1-up.len_at_least
    c.cell-item.is c.as_slice.ensures c.answer.ensures.proven c.in_ok-one.ensures.row c.in_ok-one.ensures.key in
    let after : whole_state one ≡ Some c.deref.result.now =
    sym c.in_ok-after.ensures ∙ ap (option_map (λ state. state.items)) c.in-Some.is ∙ ap Some (sym c.deref.ensures.value) in
    whole_on c.args.answers.now.items c.push.new.self.items c.append_chain.new.answers.items (chain_of code c.deref.result.now others)
    (chain_of code c.args.state.now c.args.cells.now) one c.append_chain.result c.in_ok-push.ensures.items
    (chain ∙ ap (λ rest. one ∷ rest) (behind_is_after code (whole_state one) c.deref.result.now others after)) c.append_chain.ensures.whole

pub returns-in-Some-clause-front : goal.returns-in-Some-clause-front
returns-in-Some-clause-front t c =
    let one = c.in_ok-one.one in
    let code = code_of c.args.image.now.value in
    let others = take (length c.args.cells.now - 1) (drop 1 c.args.cells.now) in
    let chain = step_chain c.args.image.now.value c.args.state.now c.as_slice.result.now c.args.cells.now c.cell-item.result one c.in-len1-up.len_at_least
    c.cell-item.is c.as_slice.ensures c.answer.ensures.proven c.in_ok-one.ensures.row c.in_ok-one.ensures.key in
    let after : whole_state one ≡ Some c.deref.result.now =
    sym c.in_ok-after.ensures ∙ ap (option_map (λ state. state.items)) c.in-Some.is ∙ ap Some (sym c.deref.ensures.value) in
    front_on c.args.answers.now.items c.push.new.self.items c.append_chain.new.answers.items (chain_of code c.deref.result.now others)
    (chain_of code c.args.state.now c.args.cells.now) one c.append_chain.result c.in_ok-push.ensures.items
    (chain ∙ ap (λ rest. one ∷ rest) (behind_is_after code (whole_state one) c.deref.result.now others after)) c.append_chain.ensures.front

pub returns-in-None-clause-whole : goal.returns-in-None-clause-whole
returns-in-None-clause-whole t c =
    let one = c.in_ok-one.one in
    let code = code_of c.args.image.now.value in
    let others = take (length c.args.cells.now - 1) (drop 1 c.args.cells.now) in
    let chain = step_chain c.args.image.now.value c.args.state.now c.as_slice.result.now c.args.cells.now c.cell-item.result one c.in-len1-up.len_at_least
    c.cell-item.is c.as_slice.ensures c.answer.ensures.proven c.in_ok-one.ensures.row c.in_ok-one.ensures.key in
    let after : whole_state one ≡ None = sym c.in_ok-after.ensures ∙ ap (option_map (λ state. state.items)) c.in-None.is in
    c.in_ok-push.ensures.items
    ∙ ap (λ all. c.args.answers.now.items ++ all)
    (sym (chain ∙ ap (λ rest. one ∷ rest) (behind_is_none code (whole_state one) others after)))
