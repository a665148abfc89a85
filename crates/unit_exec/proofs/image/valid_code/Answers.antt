use Rattle.unit_exec.proofs.image.valid_code.Goals as goal
use Rattle.unit_exec.proofs.ImageLaws.{found_there, found_is}
use Rattle.unit_vm.proofs.ValidCodeReadBack.{is_short}

pub words-requires : goal.words-requires
words-requires c = is_short c.args.program.now c.requires.0 c.requires.1

pub unwrap-requires : goal.unwrap-requires
unwrap-requires c = found_there c.args.program.now c.in_ok-words.words c.in_ok-found.found c.requires c.in_ok-words.ensures c.in_ok-found.ensures.none

pub returns : goal.returns
returns c =
    found_is c.args.program.now c.in_ok-words.words c.in_ok-found.found c.unwrap.result c.requires c.in_ok-words.ensures c.in_ok-found.ensures.some
    c.unwrap.ensures
