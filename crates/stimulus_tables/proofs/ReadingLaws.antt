-- The records that a reader of a table returns, one after the other.
use Rattle.std.proofs.Common.{◌≡◌, ℕ, zero, suc, ◌+◌, ◌<◌, ◌≤◌, Bool, true, false, List, [], ◌∷◌, ◌++◌, length, Option, Some, None, Bor, refl, ap, sym, subst, ◌∙◌, arith}
use Rattle.std.specs.Prelude.{if◌then◌else◌, ◌==◌, ◌||◌}
use Rattle.list_laws.proofs.Options.{inside}
use Rattle.csv.specs.Machine.{Read, ends_at_end, field_after, fields_after, is_end, next_record, step}
use Rattle.csv.specs.Reading.{Reached, ReadRecord, ReadsOn, default_config, is_flexible, records_from, records_next}
use Rattle.csv.specs.declared.parser.Action.{Action}
use Rattle.csv.specs.declared.parser.Action.TheVariants as act
use Rattle.csv.specs.declared.parser.State.{State}
use Rattle.csv.specs.declared.parser.State.TheVariants as state
use Rattle.csv.specs.declared.reader.Reader.{Reader}
use Rattle.csv.proofs.ReadFacts.{rows-end, rows-more}
use Rattle.stimulus_tables.specs.Reading.{IsBetween, Gives, Took, records_behind}
use Rattle.stimulus_tables.specs.Records.{Fields}

-- ---- A record ends between two

-- A byte ends a record only where it leads to a state between two records.
abbrev EndsBetween : State × Action → Type 0
EndsBetween to = is_end to.1 ≡ true → IsBetween to.0

after_between : (return : Bool) → IsBetween (if return then state.AfterCr else state.StartRecord)
after_between true = tt
after_between false = tt

in_between : (comma ends return : Bool)
    → EndsBetween (if comma then (state.StartField, act.EndField) else if ends then (if return then state.AfterCr else state.StartRecord, act.EndRecord) else (state.InField, act.Copy))
in_between true ends return is = absurd (cc)
in_between false true return is = after_between return
in_between false false return is = absurd (cc)

start_between : (quote comma ends return : Bool)
    → EndsBetween (if quote then (state.InQuoted, act.Skip) else if comma then (state.StartField, act.EndField) else if ends then (if return then state.AfterCr else state.StartRecord, act.EndRecord) else (state.InField, act.Copy))
start_between true comma ends return is = absurd (cc)
start_between false comma ends return is = in_between comma ends return is

record_between : (quote comma ends return : Bool)
    → EndsBetween (if ends then (state.StartRecord, act.Skip) else if quote then (state.InQuoted, act.Skip) else if comma then (state.StartField, act.EndField) else if ends then (if return then state.AfterCr else state.StartRecord, act.EndRecord) else (state.InField, act.Copy))
record_between quote comma true return is = absurd (cc)
record_between quote comma false return is = start_between quote comma false return is

abbrev ends_line : ℕ → Bool
ends_line byte = (byte == 13) || (byte == 10)

step_between : (at : State) (byte : ℕ) → EndsBetween (step default_config at byte)
step_between state.StartRecord byte = record_between (byte == 34) (byte == 44) (ends_line byte) (byte == 13)
step_between state.StartField byte = start_between (byte == 34) (byte == 44) (ends_line byte) (byte == 13)
step_between state.InField byte = in_between (byte == 44) (ends_line byte) (byte == 13)
step_between state.InQuoted byte = quoted (byte == 34)
  where
    quoted : (quote : Bool) → EndsBetween (if quote then (state.AfterQuote, act.Skip) else (state.InQuoted, act.Copy))
    quoted true is = absurd (cc)
    quoted false is = absurd (cc)
step_between state.InEscape byte = λ is. absurd (cc)
step_between state.AfterQuote byte = behind (byte == 34) (byte == 44) (ends_line byte) (byte == 13)
  where
    behind : (quote comma ends return : Bool)
        → EndsBetween (if quote then (state.InQuoted, act.Copy) else if comma then (state.StartField, act.EndField) else if ends then (if return then state.AfterCr else state.StartRecord, act.EndRecord) else (state.InField, act.Copy))
    behind true comma ends return is = absurd (cc)
    behind false comma ends return is = in_between comma ends return is
step_between state.InComment byte = comment (byte == 10)
  where
    comment : (feed : Bool) → EndsBetween (if feed then (state.StartRecord, act.Skip) else (state.InComment, act.Skip))
    comment true is = absurd (cc)
    comment false is = absurd (cc)
step_between state.AfterCr byte = behind (byte == 10) (byte == 34) (byte == 44) (ends_line byte) (byte == 13)
  where
    behind : (feed quote comma ends return : Bool)
        → EndsBetween (if feed then (state.StartRecord, act.Skip) else if ends then (state.StartRecord, act.Skip) else if quote then (state.InQuoted, act.Skip) else if comma then (state.StartField, act.EndField) else if ends then (if return then state.AfterCr else state.StartRecord, act.EndRecord) else (state.InField, act.Copy))
    behind true quote comma ends return is = absurd (cc)
    behind false quote comma ends return is = record_between quote comma ends return is

-- ---- What is left after a record

-- A record ends between two records, and leaves at most so many bytes.
record Leaves (most : ℕ) (read : Read) : Type 0 where
  between : IsBetween read.1
  within : length read.2 ≤ most

leaves_by : (most : ℕ) (fields : Fields) (field : List ℕ) (byte : ℕ) (rest : List ℕ) (to : State × Action) (read : Read) (told : Bool) → is_end to.1 ≡ told → EndsBetween to
    → length rest ≤ most
    → (next_record default_config to.0 (fields_after to.1 fields field) (field_after to.1 byte field) rest ≡ Some read → Leaves most read)
    → (if told then Some (fields_after to.1 fields field, to.0, rest) else next_record default_config to.0 (fields_after to.1 fields field) (field_after to.1 byte field) rest) ≡ Some read
    → Leaves most read
leaves_by most fields field byte rest to read true ended between within later is =
    subst (Leaves most) (inside is) (record { between = between ended; within = within })
leaves_by most fields field byte rest to read false ended between within later is = later is

leaves : (at : State) (fields : Fields) (field bytes : List ℕ) (read : Read) → next_record default_config at fields field bytes ≡ Some read → Leaves (length bytes) read
unfolding next_record
leaves at fields field [] read is = at_end (ends_at_end at) is
  where
    at_end : (told : Bool) → (if told then Some (fields ++ (field ∷ []), state.StartRecord, []) else None) ≡ Some read → Leaves 0 read
    at_end true is = subst (Leaves 0) (inside is) (record { between = tt; within = omega arith })
    at_end false is = absurd (cc is)
leaves at fields field (byte ∷ rest) read is =
    let to = step default_config at byte in
    leaves_by (length (byte ∷ rest)) fields field byte rest to read (is_end to.1) refl (step_between at byte) (omega arith)
    (λ later. longer (leaves to.0 (fields_after to.1 fields field) (field_after to.1 byte field) rest read later)) is
  where
    longer : Leaves (length rest) read → Leaves (length (byte ∷ rest)) read
    longer left = record { between = left.between; within = omega (arith, left.within) }

-- Between two records each byte that is left counts. Where no byte is left, there is no record.
leaves_less : (at : State) (bytes : List ℕ) (read : Read) → IsBetween at → next_record default_config at [] [] bytes ≡ Some read → suc (length read.2) ≤ length bytes
unfolding next_record
leaves_less state.StartRecord [] read between is = absurd (cc is)
leaves_less state.AfterCr [] read between is = absurd (cc is)
leaves_less state.StartField bytes read between is = absurd between
leaves_less state.InField bytes read between is = absurd between
leaves_less state.InQuoted bytes read between is = absurd between
leaves_less state.InEscape bytes read between is = absurd between
leaves_less state.AfterQuote bytes read between is = absurd between
leaves_less state.InComment bytes read between is = absurd between
leaves_less at (byte ∷ rest) read between is =
    let to = step default_config at byte in
    let left = leaves_by (length rest) [] [] byte rest to read (is_end to.1) refl (step_between at byte) (omega arith)
    (leaves to.0 (fields_after to.1 [] []) (field_after to.1 byte []) rest read) is in
    omega (arith, left.within)

-- ---- All records that are left

enough_by : (one other : State → List ℕ → List Fields) (next : Option Read) → ((read : Read) → next ≡ Some read → one read.1 read.2 ≡ other read.1 read.2)
    → records_next one next ≡ records_next other next
enough_by one other None same = refl
enough_by one other (Some read) same = ap (λ later. read.0 ∷ later) (same read refl)

-- As many turns as there are bytes, and one more, are enough.
enough : (turns more : ℕ) (at : State) (bytes : List ℕ) → IsBetween at → length bytes < turns → length bytes < more
    → records_from default_config turns at bytes ≡ records_from default_config more at bytes
unfolding records_from
enough zero more at bytes between few less = absurd (omega arith)
enough (suc turns) zero at bytes between few less = absurd (omega arith)
enough (suc turns) (suc more) at bytes between few less =
    enough_by (records_from default_config turns) (records_from default_config more) (next_record default_config at [] [] bytes)
    (λ read is.
    let shorter = leaves_less at bytes read between is in
    enough turns more read.1 read.2 (leaves at [] [] bytes read is).between (omega (arith, few)) (omega (arith, less)))

turn : (turns : ℕ) (at : State) (bytes : List ℕ) → records_from default_config (suc turns) at bytes ≡ records_next (records_from default_config turns) (next_record default_config at [] [] bytes)
unfolding records_from
turn turns at bytes = refl

next_turn : (turns : ℕ) (at : State) (bytes : List ℕ) → records_from default_config (turns + 1) at bytes ≡ records_next (records_from default_config turns) (next_record default_config at [] [] bytes)
next_turn turns at bytes =
    let one_more : turns + 1 ≡ suc turns = omega arith in
    ap (λ n. records_from default_config n at bytes) one_more ∙ turn turns at bytes

pub one_record : (at : State) (bytes : List ℕ) (read : Read) → IsBetween at → next_record default_config at [] [] bytes ≡ Some read
    → records_behind at bytes ≡ read.0 ∷ records_behind read.1 read.2
one_record at bytes read between is =
    let shorter = leaves_less at bytes read between is in
    next_turn (length bytes) at bytes ∙ ap (records_next (records_from default_config (length bytes))) is
    ∙ ap (λ later. read.0 ∷ later)
    (enough (length bytes) (length read.2 + 1) read.1 read.2 (leaves at [] [] bytes read is).between (omega arith) (omega arith))

pub no_record : (at : State) (bytes : List ℕ) → next_record default_config at [] [] bytes ≡ None → records_behind at bytes ≡ []
no_record at bytes is = next_turn (length bytes) at bytes ∙ ap (records_next (records_from default_config (length bytes))) is

-- ---- One read

abbrev known : Bor (List ℕ) → Option (List ℕ)
known s = Some s.now

next_reached : (at to : State) (bytes left : List ℕ) (fields : Fields) → Reached default_config at bytes (fields ∷ []) to left
    → next_record default_config at [] [] bytes ≡ Some (fields, to, left)
unfolding Reached
next_reached at to bytes left fields reached =
    let read = reached.0 in
    reached.1 ∙ ap (λ f. Some (f, read.1, read.2)) (sym reached.2) ∙ ap (λ s. Some (fields, s, read.2)) reached.3.0 ∙ ap (λ b. Some (fields, to, b)) reached.3.1

nothing_reached : (at : State) (bytes : List ℕ) → Reached default_config at bytes [] at bytes
unfolding Reached
nothing_reached at bytes = (refl, refl)

pub took : (old new : Reader (Bor (List ℕ))) (fields : Fields) (rest : List Fields) → Gives old rest → ReadRecord known old new true fields → ReadsOn old new
    → is_flexible new ≡ is_flexible old → Took rest true fields new
took old new fields rest gives read on flexible =
    let more = rows-more known old new fields default_config old.state gives.bytes gives.bytes [] gives.config gives.source (nothing_reached old.state gives.bytes) read in
    let next = next_reached old.state new.state gives.bytes more.0 fields more.2 in (
      records_behind new.state more.0,
      gives.rest_is ∙ one_record old.state gives.bytes (fields, new.state, more.0) gives.between next,
      record {
        untrimmed = on.1 ∙ gives.untrimmed;
        ready = (on.4 gives.ready).0;
        config = on.0 ∙ gives.config;
        flexible = flexible ∙ gives.flexible;
        between = (leaves old.state [] [] gives.bytes (fields, new.state, more.0) next).between;
        bytes = more.0;
        source = more.1;
        rest_is = refl;
      },
    )

pub ended : (old new : Reader (Bor (List ℕ))) (fields : Fields) (rest : List Fields) → Gives old rest → ReadRecord known old new false fields → rest ≡ []
ended old new fields rest gives read =
    gives.rest_is ∙ no_record old.state gives.bytes (rows-end known old new fields default_config gives.bytes gives.config gives.source read)

pub read_by : (old new : Reader (Bor (List ℕ))) (found : Bool) (fields : Fields) (rest : List Fields) → Gives old rest → ReadRecord known old new found fields
    → (found ≡ true → ReadsOn old new) → is_flexible new ≡ is_flexible old → Took rest found fields new
read_by old new true fields rest gives read on flexible = took old new fields rest gives read (on refl) flexible
read_by old new false fields rest gives read on flexible = ended old new fields rest gives read
