-- Options and results.
use Rattle.std.proofs.Common.{◌≡◌, Bool, true, false, Option, Some, None, Result, Ok, Err}
use Rattle.std.proofs.Common.{refl, sym, ◌∙◌}
use Rattle.std.specs.Prelude.{OnOk, cond, is_some, OnErr}
use Rattle.std.specs.Result.{result_and}
use Rattle.std.specs.Option.{option_or}

pub on_ok : {T E : Type 0} (result : Result T E) (P Q : Type 0) → (P → Q) → OnOk result P → OnOk result Q
on_ok (Ok value) P Q from holds = from holds
on_ok (Err fault) P Q from holds = tt

-- a proposition that holds in any case holds on an error
pub on_err : {T E P : Type 0} (result : Result T E) → P → OnErr result P
on_err (Ok value) holds = tt
on_err (Err fault) holds = holds

pub or_none : {A : Type 0} (one : Option A) → option_or one None ≡ one
or_none None = refl
or_none (Some x) = refl

pub and_kept : {T X E : Type 0} (done : Result T E) (value kept : X) {Done : Type 0} → OnOk done Done → Ok kept ≡ result_and done (Ok value)
    → (kept ≡ value) × Done
and_kept (Ok _) value kept is_done is = (cc (is), is_done)
and_kept (Err why) value kept is_done is = absurd (cc (is))

pub none_told : {A : Type 0} (found : Option A) → is_some found ≡ false → found ≡ None
none_told None is = refl
none_told (Some x) is = absurd (cc)

-- a value that is stored where no value was is the new option
pub put_behind : {A : Type 0} (asked stored : Bool) (old new : Option A) (value : A) → asked ≡ stored → (asked ≡ true → old ≡ None)
    → new ≡ cond stored (Some value) old → new ≡ option_or old (cond asked (Some value) None)
put_behind true true old new value same none put = rw (none refl) put
put_behind false false old new value same none put = put ∙ sym (or_none old)
put_behind true false old new value same none put = absurd (cc)
put_behind false true old new value same none put = absurd (cc)

-- what is found in one place is one thing
pub some_same : {A : Type 0} (found : Option A) (one other : A) → found ≡ Some one → found ≡ Some other → one ≡ other
some_same found one other is was = cc

pub inside : {A : Type 0} {a b : A} → Some a ≡ Some b → a ≡ b
inside same = cc same
