-- The numbers of a command are in their ranges.
use Rattle.std.proofs.Common.{◌≡◌, ℕ, ◌*◌, ◌≤◌, Bool, true, false, cond, List, [], ◌∷◌, Option, Some, None, refl, subst, arith}
use Rattle.std.specs.Prelude.{◌&&◌, codes, nat_le, IfSome, ⊤}
use Rattle.std.specs.Option.{option_map}
use Rattle.std.specs.Str.{bytes_eq}
use Rattle.std.proofs.lemmas.Bool.Decides.{nat_tests}
use Rattle.command_line.specs.Commands.{KeepsRanges, command_of, command_with, generation_of, replaying_of, running_of, saving_of, splitting_of}
use Rattle.command_line.specs.Commands.{without_options}
use Rattle.command_line.specs.Generations.{CanGive, asked_by}
use Rattle.command_line.specs.Options.{◌>>=◌, given_by, is_given_none}
use Rattle.command_line.specs.Ranges.{required_within, within}
use Rattle.command_line.specs.declared.commands.Command.TheVariants.{Run, Check, Print, Upgrade, Replay, Gen, Bench, Save, Resume, Verify, Stimulus, Flatten}
use Rattle.command_line.specs.declared.commands.Command.TheVariants.{Nodes}
use Rattle.command_line.specs.declared.options.Given.{Given}

-- ---- What holds of a value, where there is one

either : {A : Type 0} (P : A → Type 0) (test : Bool) (one other : Option A) → IfSome one P → IfSome other P → IfSome (cond test one other) P
either P true one other first second = first
either P false one other first second = second

behind : {A B : Type 0} (Q : A → Type 0) (P : B → Type 0) (from : Option A) (next : A → Option B) → IfSome from Q
    → ((value : A) → Q value → IfSome (next value) P) → IfSome (from >>= next) P
behind Q P None next holds each = tt
behind Q P (Some value) next holds each = each value holds

any : {A : Type 0} (found : Option A) → IfSome found (λ value. ⊤)
any None = tt
any (Some value) = tt

mapped : {A B : Type 0} (P : B → Type 0) (make : A → B) (found : Option A) → IfSome found (λ value. P (make value)) → IfSome (option_map make found) P
mapped P make None holds = tt
mapped P make (Some value) holds = holds

-- ---- Ranges

record IsWithin (least greatest number found : ℕ) : Type 0 where
  same : found ≡ number
  low : least ≤ found
  high : found ≤ greatest

is_within : (least greatest number : ℕ) → IfSome (within least greatest number) (IsWithin least greatest number)
is_within least greatest number = by (nat_le least number && nat_le number greatest) refl
  where
    by : (told : Bool) → nat_le least number && nat_le number greatest ≡ told → IfSome (cond told (Some number) None) (IsWithin least greatest number)
    by true is = record { same = refl; low = grind (arith, nat_tests); high = grind (arith, nat_tests) }
    by false is = tt

is_required : (least greatest : ℕ) (given : Option ℕ) → IfSome (required_within least greatest given) (λ found. IsWithin least greatest found found)
is_required least greatest None = tt
is_required least greatest (Some number) = own (within least greatest number) (is_within least greatest number)
  where
    own : (found : Option ℕ) → IfSome found (IsWithin least greatest number) → IfSome found (λ found. IsWithin least greatest found found)
    own None holds = tt
    own (Some found) holds = record { same = refl; low = holds.low; high = holds.high }

-- ---- Commands

can_give : (given : Given) → IfSome (asked_by given) CanGive
can_give given =
    behind (λ _. ⊤) CanGive given.seed _ (any given.seed) (λ seed _.
    behind (λ n. IsWithin 1 64 n n) CanGive (required_within 1 64 given.instances) _ (is_required 1 64 given.instances) (λ instances few.
    behind (λ n. IsWithin 1 100000 n n) CanGive (required_within 1 100000 given.rows) _ (is_required 1 100000 given.rows) (λ rows some.
    behind (IsWithin 1 1000000 (rows * instances)) CanGive (within 1 1000000 (rows * instances)) _ (is_within 1 1000000 (rows * instances)) (λ cells all.
    record {
      one_instance = few.low;
      few_instances = few.high;
      one_row = some.low;
      few_rows = some.high;
      few_in_all = subst (λ n. n ≤ 1000000) all.same all.high;
    }))))

without_kept : {A : Type 0} (P : A → Type 0) (command : A) (left : Given) → P command → IfSome (without_options command left) P
without_kept P command left keeps = either P (is_given_none left) (Some command) None keeps tt

generation_kept : (given : Given) → IfSome (generation_of given) CanGive
generation_kept given =
    behind CanGive CanGive (asked_by given) _ (can_give given) (λ asked can.
    without_kept CanGive asked (record given { seed = None; instances = None; rows = None }) can)

row_kept : (word : List ℕ) (given : Given) → IfSome (command_with word given) KeepsRanges
row_kept word given =
    either KeepsRanges (bytes_eq word (codes "run")) _ _ (mapped KeepsRanges Run (running_of given) (any (running_of given)))
    (either KeepsRanges (bytes_eq word (codes "check")) _ _ (without_kept KeepsRanges Check given tt)
    (either KeepsRanges (bytes_eq word (codes "print")) _ _ (without_kept KeepsRanges Print given tt)
    (either KeepsRanges (bytes_eq word (codes "upgrade")) _ _ (without_kept KeepsRanges Upgrade given tt)
    (either KeepsRanges (bytes_eq word (codes "replay")) _ _ (mapped KeepsRanges Replay (replaying_of given) (any (replaying_of given)))
    (either KeepsRanges (bytes_eq word (codes "gen")) _ _ (mapped KeepsRanges Gen (generation_of given) (any (generation_of given)))
    (either KeepsRanges (bytes_eq word (codes "bench")) _ _ (mapped KeepsRanges Bench (generation_of given) (generation_kept given))
    (either KeepsRanges (bytes_eq word (codes "save")) _ _ (mapped KeepsRanges Save (saving_of given) (any (saving_of given)))
    (either KeepsRanges (bytes_eq word (codes "resume")) _ _ (without_kept KeepsRanges Resume given tt)
    (either KeepsRanges (bytes_eq word (codes "verify")) _ _ (without_kept KeepsRanges Verify given tt)
    (either KeepsRanges (bytes_eq word (codes "stimulus")) _ _ (without_kept KeepsRanges Stimulus given tt)
    (either KeepsRanges (bytes_eq word (codes "flatten")) _ _ (without_kept KeepsRanges Flatten given tt)
    (either KeepsRanges (bytes_eq word (codes "nodes")) _ _ (mapped KeepsRanges Nodes (splitting_of given) (any (splitting_of given)))
    tt))))))))))))

pub ranges_kept : (words : List (List ℕ)) → IfSome (command_of words) KeepsRanges
ranges_kept [] = tt
ranges_kept (word ∷ words) =
    behind (λ _. ⊤) KeepsRanges (given_by words) (command_with word) (any (given_by words)) (λ given _. row_kept word given)
