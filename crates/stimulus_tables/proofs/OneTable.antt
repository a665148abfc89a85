-- Records are one table, or leave the form at one number.
use Rattle.std.proofs.Common.{◌≡◌, ℕ, List, [], ◌∷◌, ◌++◌, length, inl, inr, refl, ap, sym, subst, ◌∙◌, arith, append-nil, append_assoc}
use Rattle.std.specs.Prelude.{◌⊎◌, codes}
use Rattle.list_laws.proofs.Lists.{same_first, same_rest}
use Rattle.stimulus_tables.specs.Laws.{AreJudgedOnce}
use Rattle.stimulus_tables.specs.Tables.{BeginsTable, Fields, Follow, IsTable, LacksHead, LacksMoment, LeavesBehind, LeavesForm, MayFollow}
use Rattle.stimulus_tables.specs.declared.moment.Moment.{Moment}
use Rattle.stimulus_tables.proofs.OneMoment.{same_moment}
use Rattle.stimulus_tables.proofs.SomeTable.{judged}

-- ---- Two readings of records

-- The first record of some may follow the moments.
record GoesOn (names : List (List ℕ)) (moments : List Moment) (left : List Fields) : Type 0 where
  fields : Fields
  rest : List Fields
  moment : Moment
  cut : left ≡ fields ∷ rest
  may : MayFollow names moments fields moment

-- They are equal, or one goes on where the other ends.
abbrev Agree : List (List ℕ) → List Moment → List Moment → List Moment → List Fields → List Fields → Type 0
Agree names before moments more left rest =
    ((more ≡ moments) × (left ≡ rest)) ⊎ (GoesOn names (before ++ moments) left ⊎ GoesOn names (before ++ more) rest)

goes : (names : List (List ℕ)) (before : List Moment) (fields : Fields) (others left : List Fields) (moment : Moment) → left ≡ fields ∷ others
    → MayFollow names before fields moment → GoesOn names (before ++ []) left
goes names before fields others left moment is may = record {
  fields = fields;
  rest = others;
  moment = moment;
  cut = is;
  may = subst (λ all. MayFollow names all fields moment) (sym (append-nil before)) may;
}

later_agree : (names : List (List ℕ)) (before : List Moment) (moment : Moment) (moments more : List Moment) (left rest : List Fields)
    → Agree names (before ++ (moment ∷ [])) moments more left rest → Agree names before (moment ∷ moments) (moment ∷ more) left rest
later_agree names before moment moments more left rest (inl same) = inl (ap (λ others. moment ∷ others) same.0, same.1)
later_agree names before moment moments more left rest (inr (inl on)) =
    inr (inl (subst (λ all. GoesOn names all left) (append_assoc before (moment ∷ []) moments) on))
later_agree names before moment moments more left rest (inr (inr on)) =
    inr (inr (subst (λ all. GoesOn names all rest) (append_assoc before (moment ∷ []) more) on))

agree : (names : List (List ℕ)) (before : List Moment) (front others left rest : List Fields) (moments more : List Moment) → Follow names before front moments
    → Follow names before others more → front ++ left ≡ others ++ rest → Agree names before moments more left rest
agree names before [] [] left rest [] [] one other is = inl (refl, is)
agree names before [] [] left rest [] (next ∷ more) one other is = absurd other
agree names before [] [] left rest (moment ∷ moments) more one other is = absurd one
agree names before [] (fields ∷ others) left rest [] [] one other is = absurd other
agree names before [] (fields ∷ others) left rest [] (next ∷ more) one other is =
    inr (inl (goes names before fields (others ++ rest) left next is other.0))
agree names before [] (fields ∷ others) left rest (moment ∷ moments) more one other is = absurd one
agree names before (first ∷ front) others left rest [] more one other is = absurd one
agree names before (first ∷ front) [] left rest (moment ∷ moments) [] one other is =
    inr (inr (goes names before first (front ++ left) rest moment (sym is) one.0))
agree names before (first ∷ front) [] left rest (moment ∷ moments) (next ∷ more) one other is = absurd other
agree names before (first ∷ front) (fields ∷ others) left rest (moment ∷ moments) [] one other is = absurd other
agree names before (first ∷ front) (fields ∷ others) left rest (moment ∷ moments) (next ∷ more) one other is =
    let head : first ≡ fields = same_first first fields (front ++ left) (others ++ rest) is in
    let same : moment ≡ next = same_moment moment next one.0.is_moment.writable other.0.is_moment.writable (sym one.0.written ∙ head ∙ other.0.written) in
    let by = agree names (before ++ (moment ∷ [])) front others left rest moments more one.1
    (subst (λ (m : Moment). Follow names (before ++ (m ∷ [])) others more) (sym same) other.1)
    (same_rest first fields (front ++ left) (others ++ rest) is) in
    subst (λ (m : Moment). Agree names before (moment ∷ moments) (m ∷ more) left rest) same (later_agree names before moment moments more left rest by)

-- ---- Beginnings

begins_agree : (records : List Fields) (names others : List (List ℕ)) (moments more : List Moment) (left rest : List Fields) → BeginsTable records names moments left
    → BeginsTable records others more rest → (others ≡ names) × Agree names [] moments more left rest
begins_agree records names others moments more left rest one other =
    let cut : one.head ∷ one.front ++ left ≡ other.head ∷ other.front ++ rest = sym one.cut ∙ other.cut in
    let head : one.head ≡ other.head = same_first one.head other.head (one.front ++ left) (other.front ++ rest) cut in
    let named : others ≡ names =
    same_rest (codes "time") (codes "time") others names (sym other.is_head.0 ∙ sym head ∙ one.is_head.0) in (
      named,
      agree names [] one.front other.front left rest moments more one.follow (subst (λ all. Follow all [] other.front more) named other.follow)
          (same_rest one.head other.head (one.front ++ left) (other.front ++ rest) cut),
    )

none_goes_on : (names : List (List ℕ)) (moments : List Moment) → GoesOn names moments [] → ⊥
none_goes_on names moments on = no on.fields on.rest on.cut
  where
    no : (fields : Fields) (rest : List Fields) → [] ≡ fields ∷ rest → ⊥
    no fields rest same = absurd cc

lacks_none : (names : List (List ℕ)) (moments : List Moment) (left : List Fields) → LacksMoment names moments left → GoesOn names moments left → ⊥
lacks_none names moments left lacks on = subst (LacksMoment names moments) on.cut lacks on.moment on.may

no_head_there : (records : List Fields) (names : List (List ℕ)) (moments : List Moment) (left : List Fields) → BeginsTable records names moments left → LacksHead records → ⊥
no_head_there records names moments left one lacks = subst LacksHead one.cut lacks names one.is_head

-- ---- Records

one_table : (records : List Fields) (names others : List (List ℕ)) (first one : Moment) (later more : List Moment) → IsTable records names first later
    → IsTable records others one more → (others ≡ names) × (one ≡ first) × (more ≡ later)
one_table records names others first one later more is told = let both = begins_agree records names others (first ∷ later) (one ∷ more) [] [] is told in by both.0 both.1
  where
    by : others ≡ names → Agree names [] (first ∷ later) (one ∷ more) [] [] → (others ≡ names) × (one ≡ first) × (more ≡ later)
    by named (inl same) = (named, same_first one first more later same.0, same_rest one first more later same.0)
    by named (inr (inl on)) = absurd (none_goes_on names (first ∷ later) on)
    by named (inr (inr on)) = absurd (none_goes_on names (one ∷ more) on)

same_number : (records : List Fields) (number other : ℕ) (one : LeavesBehind records number) (two : LeavesBehind records other)
    → Agree one.names [] one.moments two.moments one.left two.left → two.names ≡ one.names → number ≡ other
same_number records number other one two (inl same) named = omega (arith, one.number_is, two.number_is, ap length same.0)
same_number records number other one two (inr (inl on)) named = absurd (lacks_none one.names one.moments one.left one.lacks on)
same_number records number other one two (inr (inr on)) named =
    absurd (lacks_none one.names two.moments two.left (subst (λ names. LacksMoment names two.moments two.left) named two.lacks) on)

one_number : (records : List Fields) (number other : ℕ) → LeavesForm records number → LeavesForm records other → number ≡ other
one_number records number other (inl one) (inl two) = one.1 ∙ sym two.1
one_number records number other (inl one) (inr two) = absurd (no_head_there records two.names two.moments two.left two.begins one.0)
one_number records number other (inr one) (inl two) = absurd (no_head_there records one.names one.moments one.left one.begins two.0)
one_number records number other (inr one) (inr two) =
    let both = begins_agree records one.names two.names one.moments two.moments one.left two.left one.begins two.begins in
    same_number records number other one two both.1 both.0

table_leaves : (records : List Fields) (names : List (List ℕ)) (first : Moment) (later : List Moment) (number : ℕ) (two : LeavesBehind records number)
    → two.names ≡ names → Agree names [] (first ∷ later) two.moments [] two.left → ⊥
table_leaves records names first later number two named (inl same) =
    subst (λ moments. LacksMoment two.names moments []) same.0 (subst (LacksMoment two.names two.moments) (sym same.1) two.lacks)
table_leaves records names first later number two named (inr (inl on)) = none_goes_on names (first ∷ later) on
table_leaves records names first later number two named (inr (inr on)) =
    lacks_none names two.moments two.left (subst (λ all. LacksMoment all two.moments two.left) named two.lacks) on

not_both : (records : List Fields) (names : List (List ℕ)) (first : Moment) (later : List Moment) (number : ℕ) → IsTable records names first later
    → LeavesForm records number → ⊥
not_both records names first later number is (inl lacks) = no_head_there records names (first ∷ later) [] is lacks.0
not_both records names first later number is (inr two) =
    let both = begins_agree records names two.names (first ∷ later) two.moments [] two.left is two.begins in
    table_leaves records names first later number two both.0 both.1

pub judged_once : (records : List Fields) → AreJudgedOnce records
judged_once records = record { some = judged records; one_table = one_table records; one_number = one_number records; not_both = not_both records }
