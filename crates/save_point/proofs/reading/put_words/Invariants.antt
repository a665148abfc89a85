use Rattle.std.specs.Option.{option_map}
use Rattle.save_point.specs.Reading.{parts_in}
use Rattle.save_point.proofs.ReadStates.{PutSoFar, bytes_left}
use Rattle.save_point.proofs.reading.put_words.Given as goal

abbrev pub invariant-loop-rest : goal.invariant-loop-rest
invariant-loop-rest l =
    PutSoFar (parts_in (option_map (λ bytes. bytes.now) l.parts)) (parts_in (option_map (λ bytes. bytes.now) l.rest)) l.fn.words l.words l.count

abbrev pub decreases-loop-rest : goal.decreases-loop-rest
decreases-loop-rest l = bytes_left (option_map (λ bytes. bytes.now) l.rest)
