use Rattle.std.proofs.Common.{rules, ◌≡◌, None}
use Rattle.unit_tree.specs.Names.{same_port}
use Rattle.unit_check.specs.PortTables.{found_port}
use Rattle.unit_check.proofs.PortPuts.{put_key, same_found}
use Rattle.unit_check.proofs.port_tables.note_port.Goals as goal
use Rattle.language_laws.proofs.NameLaws.{same_port_symm}
use Rattle.list_laws.proofs.Options.{put_behind}

pub returns-in_ok-insert : goal.returns-in_ok-insert
returns-in_ok-insert c = λ q.
    let port = c.args.port.now in
    let updates = c.in_ok-insert.ensures.updates in
    let none : found_port c.args.places.now port ≡ None = search rules in
    let is = put_key (
      c.as_slice.result,
      c.as_slice-then-is_none.result,
    ) port q c.args.place c.args.places.now.entries c.insert.new.self.entries c.as_slice.ensures c.as_slice-then-is_none.ensures updates.1 updates.3 in
    put_behind (same_port q port) (same_port port q) _ _ c.args.place (same_port_symm q port) (λ same. same_found port q c.args.places.now.entries same none) is
