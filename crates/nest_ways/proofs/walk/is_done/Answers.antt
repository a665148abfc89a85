use Rattle.nest_ways.proofs.walk.is_done.Goals as goal

pub returns : goal.returns
returns c told known found =
    c.requires.done.inputs c.args.inlet.input c.in-Some.number c.args.inlet.scope known (c.has.ensures.0 told) found
    (c.scope_number.ensures c.in-Some.number known c.in-Some.is found)
