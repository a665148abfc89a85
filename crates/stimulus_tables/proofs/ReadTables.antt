-- A table, one record after the other.
use Rattle.std.proofs.Common.{◌≡◌, ℕ, ◌+◌, ◌<◌, Bool, true, false, List, [], ◌∷◌, ◌++◌, Bor, length, inl, inr, refl, sym, subst, arith}
use Rattle.std.specs.List.{AllByRecursion}
use Rattle.csv.specs.declared.reader.Reader.{Reader}
use Rattle.stimulus_tables.specs.TableSystems.{table_system}
use Rattle.stimulus_tables.specs.Tables.{BeginsTable, Follow, IsHead, IsWritable, LacksHead, LacksMoment, LeavesForm, MayFollow}
use Rattle.stimulus_tables.specs.declared.moment.Moment.{Moment}
use Rattle.stimulus_tables.proofs.TableFronts.{table_more}
use Rattle.stimulus_tables.specs.Reading.{Gives, Took}
use Rattle.std.specs.Prelude.{IsErrAnd, Result, Ok, Err}
use Rattle.stimulus_tables.specs.Stimuli.{BeganTable, IsSystemOf, MakesSystem, TellsFault}
use Rattle.stimulus_tables.specs.declared.fault.TableFault.{TableFault}
use Rattle.stimulus_tables.specs.Records.{Fields}
use Rattle.unit_tree.specs.declared.system.System.{System}

abbrev Readers : Type 0
Readers = Reader (Bor (List ℕ))

-- ---- The head

pub head_read : (records : List Fields) (fields : Fields) (found : Bool) (names : List (List ℕ)) (reader : Readers) → Took records found fields reader → found ≡ true
    → IsHead fields names → BeganTable records names [] reader
head_read records fields found names reader took is head =
    let read = subst (λ b. Took records b fields reader) is took in
    record {
      left = read.0;
      begins = record { head = fields; front = []; cut = read.1; is_head = head; follow = tt };
      gives = read.2;
    }

pub no_head : (records : List Fields) (fields : Fields) (found : Bool) (reader : Readers) → Took records found fields reader → found ≡ true
    → ((names : List (List ℕ)) → IsHead fields names → ⊥) → LeavesForm records 1
no_head records fields found reader took is none =
    let read = subst (λ b. Took records b fields reader) is took in inl (subst LacksHead (sym read.1) none, refl)

pub no_records : (records : List Fields) (fields : Fields) (found : Bool) (reader : Readers) → Took records found fields reader → found ≡ false → LeavesForm records 1
no_records records fields found reader took is =
    let none = subst (λ b. Took records b fields reader) is took in inl (subst LacksHead (sym none) tt, refl)

-- ---- Moments

follow_written : (names : List (List ℕ)) (before : List Moment) (front : List Fields) (moments : List Moment) → Follow names before front moments
    → AllByRecursion IsWritable moments
follow_written names before [] [] follow = tt
follow_written names before [] (one ∷ moments) follow = absurd follow
follow_written names before (first ∷ front) [] follow = absurd follow
follow_written names before (first ∷ front) (one ∷ moments) follow =
    (follow.0.is_moment.writable, follow_written names (before ++ (one ∷ [])) front moments follow.1)

module _ (records : List Fields) (names : List (List ℕ)) (moments : List Moment) (old new : Readers) (fields : Fields) (found : Bool)
    (took : (rest : List Fields) → Gives old rest → Took rest found fields new) where
  pub moment_read : (moment : Moment) (more : List Moment) → found ≡ true → MayFollow names moments fields moment → more ≡ moments ++ (moment ∷ [])
      → BeganTable records names moments old → BeganTable records names more new
  moment_read moment more is next all began =
      let read = subst (λ b. Took began.left b fields new) is (took began.left began.gives) in
      let begins = table_more records names moments fields read.0 moment (subst (BeginsTable records names moments) read.1 began.begins) next in
      record { left = read.0; begins = subst (λ all. BeginsTable records names all read.0) (sym all) begins; gives = read.2 }

  pub moment_lacks : found ≡ true → ((moment : Moment) → MayFollow names moments fields moment → ⊥) → BeganTable records names moments old
      → LeavesForm records (length moments + 2)
  moment_lacks is none began =
      let read = subst (λ b. Took began.left b fields new) is (took began.left began.gives) in
      inr (record {
        names = names;
        moments = moments;
        left = began.left;
        begins = began.begins;
        lacks = subst (LacksMoment names moments) (sym read.1) none;
        number_is = omega arith;
      })

  pub moments_end : found ≡ false → BeganTable records names moments old → BeginsTable records names moments []
  moments_end is began =
      let none = subst (λ b. Took began.left b fields new) is (took began.left began.gives) in
      subst (BeginsTable records names moments) none began.begins

-- ---- Tables

pub no_moment : (records : List Fields) (names : List (List ℕ)) → BeginsTable records names [] [] → LeavesForm records 2
no_moment records names begins = inr (record { names = names; moments = []; left = []; begins = begins; lacks = tt; number_is = refl })

pub table_written : (records : List Fields) (names : List (List ℕ)) (moments : List Moment) → BeginsTable records names moments [] → AllByRecursion IsWritable moments
table_written records names moments begins = follow_written names [] begins.front moments begins.follow

pub is_system : (records : List Fields) (names : List (List ℕ)) (first : Moment) (later : List Moment) (system : System)
    → BeginsTable records names (first ∷ later) [] → system ≡ table_system names first later → IsSystemOf records system
is_system records names first later system begins is = record { names = names; first = first; later = later; is_table = begins; is = is }

pub no_moments : (records : List Fields) (names : List (List ℕ)) (moments : List Moment) → length moments < 1 → BeginsTable records names moments [] → LeavesForm records 2
no_moments records names [] none begins = no_moment records names begins
no_moments records names (moment ∷ moments) none begins = absurd (omega arith)

-- The fault of a part that gave up is the result.
pub handed_on : (records : List Fields) (fault : TableFault) (result : Result System TableFault) → IsErrAnd result (λ given. given ≡ fault) → TellsFault records fault
    → MakesSystem records result
handed_on records fault (Ok system) is told = absurd is
handed_on records fault (Err given) is told = subst (TellsFault records) (sym is) told
