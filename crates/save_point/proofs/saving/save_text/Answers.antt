use Rattle.std.proofs.Common.{◌≡◌, ◌++◌, true, false, arith, rules}
use Rattle.save_point.specs.SavedTexts.{saved_text}
use Rattle.save_point.proofs.WalkLaws.{has_none, puts_position, started}
use Rattle.save_point.proofs.saving.save_text.Goals as goal

pub returns-then-not-go_on-clause-no_row : goal.returns-then-not-go_on-clause-no_row
returns-then-not-go_on-clause-no_row c = λ _.
    let shared : c.in_ok-shared.shared.value ≡ c.args.plan.now.value = search rules in
    let no : c.go_on.result ≡ false = grind (arith, c.if-not-go_on.true) in
    has_none c.args.plan.now.value c.go_on.new.run c.args.row
    (started c.args.plan.now.value c.in_ok-shared.shared.value c.in_ok-run.run' c.go_on.new.run shared c.in_ok-run.ensures.opened c.go_on.ensures.plan
    c.go_on.ensures.opened)
    c.go_on.ensures.stands (c.go_on.ensures.ended no) (c.go_on.ensures.short no)

pub returns-clause-put : goal.returns-clause-put
returns-clause-put c =
    let shared : c.in_ok-shared.shared.value ≡ c.args.plan.now.value = search rules in
    let yes : c.go_on.result ≡ true = grind (arith, c.if-not-go_on.false) in
    let text : c.put_stand.new.text.items ≡ saved_text c.args.plan.now.value.system c.go_on.new.run.stand.at = search rules in
    let put : c.extend_from_slice.new.self.items ≡ c.args.out.now.items ++ c.put_stand.new.text.items = search rules in
    puts_position c.args.plan.now.value c.go_on.new.run c.args.row c.args.out.now.items c.put_stand.new.text.items c.extend_from_slice.new.self.items
    (started c.args.plan.now.value c.in_ok-shared.shared.value c.in_ok-run.run' c.go_on.new.run shared c.in_ok-run.ensures.opened c.go_on.ensures.plan
    c.go_on.ensures.opened)
    c.go_on.ensures.stands (c.go_on.ensures.there yes) text put
