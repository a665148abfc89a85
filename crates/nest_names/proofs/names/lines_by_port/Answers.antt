use Rattle.std.proofs.Common.{◌∙◌, ◌++◌, ap, bytes_eq, sym, take}
use Rattle.std.specs.List.{filter}
use Rattle.nest_text.specs.declared.nest.Bind.{Bind}
use Rattle.list_laws.proofs.Members.{read_at, take_next}
use Rattle.nest_names.specs.Tables.{places_of}
use Rattle.nest_names.proofs.NamedLists.{listed_more, one_if}
use Rattle.nest_names.proofs.names.lines_by_port.Goals as goal

pub loop-place-preserved : goal.loop-place-preserved
loop-place-preserved c =
    let binds = c.args.binds.now in
    let place = c.loop-place.place in
    let item = c.index-binds-place.result in
    let there = read_at binds place item c.loop-place-test.true c.index-binds-place.is in (
      c.in_ok-add.ensures.numbered,
      λ q.
          listed_more (λ (bind : Bind). bind.port) binds (take place binds) (places_of c.loop-place.lines) (places_of c.add.new.self) place item there
          c.loop-place.invariant.1
          (λ r. c.in_ok-add.ensures.places r ∙ ap (λ port. places_of c.loop-place.lines r ++ one_if (bytes_eq r port) place) c.as_slice.ensures) q
          ∙ ap (filter (λ (bind : Bind). bytes_eq bind.port q)) (sym (take_next binds place item there)),
    )
