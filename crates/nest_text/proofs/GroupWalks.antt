-- Groups that are collected and read in turn.
use Rattle.std.proofs.Common.{◌≡◌, ℕ, suc, ◌+◌, ◌≤◌, ◌<◌, true, false, List, [], ◌∷◌, ◌++◌, map, length, Some, None, Err}
use Rattle.std.proofs.Common.{refl, sym, ap, subst, ◌∙◌, arith, append_assoc, append-nil}
use Rattle.std.specs.Prelude.{codes}
use Rattle.std.specs.List.{AllByRecursion, AllZip, flat_map}
use Rattle.std.proofs.lemmas.Grind.{flat_map-append}
use Rattle.std.proofs.lemmas.List.{map-append}
use Rattle.std.proofs.lemmas.Option.{none-some, same_Some}
use Rattle.unit_tree.specs.Lines.{lines_of, without_return}
use Rattle.nest_text.specs.NestLines.{AreLines, IsKind, SourceLine}
use Rattle.nest_text.specs.Nests.{GroupLines, IsGroupOf, IsRead, Parted, RefusesGroup, RefusesGroups, given, groups_of, in_on, kept_number, kept_text, numbers, of_kept, out_on, parted, with_line}
use Rattle.nest_text.specs.Reading.{AddsLine, AddsLines, Gathers, GroupsAnswer, IsGathered, IsNextGroup, NextGroupIs, OfLines, begins_group, name_begun}
use Rattle.nest_text.specs.declared.fault.NestFault.{NestFault}
use Rattle.nest_text.specs.declared.fault.NestFault.TheVariants as fault
use Rattle.nest_text.specs.declared.groups.Body.{Body}
use Rattle.nest_text.specs.declared.kind.LineKind.{LineKind}
use Rattle.nest_text.specs.declared.kind.LineKind.TheVariants as kinds
use Rattle.nest_text.specs.declared.nest.Group.{Group}
use Rattle.nest_text.proofs.LineWalks.{lines_there, next_line, none_left, of_lines}
use Rattle.nest_text.proofs.TextCuts.{IsWhole, are_whole}
use Rattle.text_laws.proofs.WholeLines.{line_more}

-- ---- One more line

-- a line that begins no group is the first of those before the first group
pub not_begun : (line : SourceLine) (kind : LineKind) (behind : Parted) → ((name : List ℕ) → kind ≡ kinds.Begins name → ⊥)
    → with_line line kind behind ≡ record { prefix = line ∷ behind.prefix; groups = behind.groups }
not_begun line (kinds.Begins name) behind not = absurd (not name refl)
not_begun line kinds.Main behind not = refl
not_begun line (kinds.In bind) behind not = refl
not_begun line (kinds.Out bind) behind not = refl
not_begun line kinds.Opens behind not = refl
not_begun line kinds.Ends behind not = refl
not_begun line kinds.Connects behind not = refl
not_begun line kinds.Blank behind not = refl
not_begun line kinds.Other behind not = refl

pub begun_not : (kind : LineKind) → begins_group kind ≡ false → (name : List ℕ) → kind ≡ kinds.Begins name → ⊥
begun_not kind is name begins = absurd (let told = ap begins_group begins in cc)

pub begun_by : (kind : LineKind) → begins_group kind ≡ true → (name : List ℕ) × (kind ≡ kinds.Begins name)
begun_by (kinds.Begins name) is = (name, refl)
begun_by kinds.Main is = absurd (cc)
begun_by (kinds.In bind) is = absurd (cc)
begun_by (kinds.Out bind) is = absurd (cc)
begun_by kinds.Opens is = absurd (cc)
begun_by kinds.Ends is = absurd (cc)
begun_by kinds.Connects is = absurd (cc)
begun_by kinds.Blank is = absurd (cc)
begun_by kinds.Other is = absurd (cc)

pub not_named : (kind : LineKind) → name_begun kind ≡ None → (name : List ℕ) → kind ≡ kinds.Begins name → ⊥
not_named kind is name begins = absurd (none-some name (sym is ∙ ap name_begun begins))

pub named_by : (kind : LineKind) (name : List ℕ) → name_begun kind ≡ Some name → kind ≡ kinds.Begins name
named_by (kinds.Begins given) name is = ap kinds.Begins (same_Some given name is)
named_by kinds.Main name is = absurd (cc)
named_by (kinds.In bind) name is = absurd (cc)
named_by (kinds.Out bind) name is = absurd (cc)
named_by kinds.Opens name is = absurd (cc)
named_by kinds.Ends name is = absurd (cc)
named_by kinds.Connects name is = absurd (cc)
named_by kinds.Blank name is = absurd (cc)
named_by kinds.Other name is = absurd (cc)

put_more : {A B : Type 0} (f : A → List B) (old middle new : List B) (lines : List A) (line : A) → middle ≡ old ++ flat_map f lines → new ≡ middle ++ f line
    → new ≡ old ++ flat_map f (lines ++ (line ∷ []))
put_more f old middle new lines line was is =
    is ∙ ap (λ all. all ++ f line) was ∙ append_assoc old (flat_map f lines) (f line)
    ∙ ap (λ all. old ++ all) (sym (flat_map-append f lines (line ∷ []) ∙ ap (λ all. flat_map f lines ++ all) (append-nil (f line))))

adds_more : (old middle new : Body) (lines : List SourceLine) (line : SourceLine) → AddsLines old middle lines → AddsLine middle new line
    → AddsLines old new (lines ++ (line ∷ []))
adds_more old middle new lines line was is = record {
  ins = put_more (λ (l : SourceLine). in_on l.kind) old.ins middle.ins new.ins lines line was.ins is.ins;
  outs = put_more (λ (l : SourceLine). out_on l.kind) old.outs middle.outs new.outs lines line was.outs is.outs;
  text = put_more kept_text old.text.items middle.text.items new.text.items lines line was.text is.text;
  numbers = put_more kept_number old.numbers middle.numbers new.numbers lines line was.numbers is.numbers;
}

-- ---- Collecting

-- Lines of a text are collected up to this rest.
pub record GatheredSoFar (text : List ℕ) (before : ℕ) (old : Body) (rest : List ℕ) (number : ℕ) (new : Body) : Type 0 where
  pub lines : List SourceLine
  pub are_lines : AreLines (before + 1) text lines
  pub left : List SourceLine
  pub are_left : AreLines (number + 1) rest left
  pub done : List SourceLine
  pub prefix : (parted lines).prefix ≡ done ++ (parted left).prefix
  pub groups : groups_of left ≡ groups_of lines
  pub added : AddsLines old new done
  pub within : number + length rest ≤ before + length text
  pub shorter : length rest ≤ length text

pub gather_begin : (text : List ℕ) (before : ℕ) (body : Body) → GatheredSoFar text before body text before body
gather_begin text before body =
    let all = lines_there (before + 1) text in
    record {
      lines = all.0;
      are_lines = all.1;
      left = all.0;
      are_left = all.1;
      done = [];
      prefix = refl;
      groups = refl;
      added = record {
        ins = sym (append-nil body.ins);
        outs = sym (append-nil body.outs);
        text = sym (append-nil body.text.items);
        numbers = sym (append-nil body.numbers);
      };
      within = omega arith;
      shorter = omega arith;
    }

pub gather_next : (text : List ℕ) (before : ℕ) (old : Body) (rest line behind : List ℕ) (number : ℕ) (kind : LineKind) (middle new : Body)
    → GatheredSoFar text before old rest number middle → lines_of rest ≡ line ∷ lines_of behind → length behind < length rest
    → IsKind (without_return line) kind → ((name : List ℕ) → kind ≡ kinds.Begins name → ⊥)
    → AddsLine middle new (record { number = number + 1; bytes = line; kind = kind }) → GatheredSoFar text before old behind (number + 1) new
gather_next text before old rest line behind number kind middle new so_far cut shorter is not adds =
    let one : SourceLine = record { number = number + 1; bytes = line; kind = kind } in
    let next = next_line (number + 1) rest line behind kind so_far.left cut is so_far.are_left in
    let parts = ap parted next.cut ∙ not_begun one kind (parted next.others) not in
    let within = so_far.within in
    let short = so_far.shorter in
    record {
      lines = so_far.lines;
      are_lines = so_far.are_lines;
      left = next.others;
      are_left = next.are_others;
      done = so_far.done ++ (one ∷ []);
      prefix = so_far.prefix ∙ ap (λ (all : Parted). so_far.done ++ all.prefix) parts ∙ sym (append_assoc so_far.done (one ∷ []) (parted next.others).prefix);
      groups = sym (ap (λ (all : Parted). all.groups) parts) ∙ so_far.groups;
      added = adds_more old middle new so_far.done one so_far.added adds;
      within = omega (arith, within, shorter);
      shorter = omega (arith, short, shorter);
    }

gathered : (text : List ℕ) (before : ℕ) (old : Body) (rest : List ℕ) (number : ℕ) (new : Body) (so_far : GatheredSoFar text before old rest number new)
    → (parted so_far.left).prefix ≡ [] → OfLines (before + 1) text (λ lines. Gathers lines old new rest number)
gathered text before old rest number new so_far none =
    of_lines (before + 1) text (λ lines. Gathers lines old new rest number) so_far.lines so_far.are_lines
    (record {
      left = so_far.left;
      are_left = so_far.are_left;
      added = subst (AddsLines old new) (sym (so_far.prefix ∙ ap (λ all. so_far.done ++ all) none ∙ append-nil so_far.done)) so_far.added;
      groups = so_far.groups;
    })

-- at the end of the text
pub gather_end : (text : List ℕ) (before : ℕ) (old : Body) (rest : List ℕ) (number : ℕ) (new : Body) → GatheredSoFar text before old rest number new
    → length rest ≡ 0 → OfLines (before + 1) text (λ lines. Gathers lines old new rest number)
gather_end text before old rest number new so_far none =
    gathered text before old rest number new so_far
    (ap (λ lines. (parted lines).prefix) (none_left (number + 1) rest so_far.left none so_far.are_left))

-- at the line that begins the next group
pub gather_stop : (text : List ℕ) (before : ℕ) (old : Body) (rest line behind : List ℕ) (number : ℕ) (name : List ℕ) (new : Body)
    → GatheredSoFar text before old rest number new → lines_of rest ≡ line ∷ lines_of behind → IsKind (without_return line) (kinds.Begins name)
    → OfLines (before + 1) text (λ lines. Gathers lines old new rest number)
gather_stop text before old rest line behind number name new so_far cut is =
    let next = next_line (number + 1) rest line behind (kinds.Begins name) so_far.left cut is so_far.are_left in
    gathered text before old rest number new so_far (ap (λ lines. (parted lines).prefix) next.cut)

-- ---- A group that is collected

pub is_gathered : (old new : Body) (name : List ℕ) (head : ℕ) (lines : List SourceLine) → IsGathered old (record { name = []; head = head; body = [] })
    → AddsLines old new lines → IsGathered new (record { name = name; head = head; body = lines })
is_gathered old new name head lines was adds = record {
  ins = adds.ins ∙ ap (λ all. all ++ flat_map (λ (l : SourceLine). in_on l.kind) lines) was.ins;
  outs = adds.outs ∙ ap (λ all. all ++ flat_map (λ (l : SourceLine). out_on l.kind) lines) was.outs;
  text = adds.text ∙ ap (λ all. all ++ flat_map kept_text lines) was.text;
  numbers = adds.numbers ∙ ap (λ all. all ++ flat_map kept_number lines) was.numbers;
}

kept_long : (line : SourceLine) (kind : LineKind) (text : List ℕ) (count : List ℕ) → IsWhole line.bytes → length (lines_of text) ≡ length count
    → length (lines_of (of_kept kind (line.bytes ++ 10 ∷ []) ++ text)) ≡ length (of_kept kind (line.number ∷ []) ++ count)
kept_long line (kinds.In bind) text count whole same = same
kept_long line (kinds.Out bind) text count whole same = same
kept_long line kinds.Main text count whole same = ap length (ap lines_of (append_assoc line.bytes (10 ∷ []) text) ∙ line_more line.bytes text whole) ∙ ap suc same
kept_long line (kinds.Begins name) text count whole same = ap length (ap lines_of (append_assoc line.bytes (10 ∷ []) text) ∙ line_more line.bytes text whole) ∙ ap suc same
kept_long line kinds.Opens text count whole same = ap length (ap lines_of (append_assoc line.bytes (10 ∷ []) text) ∙ line_more line.bytes text whole) ∙ ap suc same
kept_long line kinds.Ends text count whole same = ap length (ap lines_of (append_assoc line.bytes (10 ∷ []) text) ∙ line_more line.bytes text whole) ∙ ap suc same
kept_long line kinds.Connects text count whole same = ap length (ap lines_of (append_assoc line.bytes (10 ∷ []) text) ∙ line_more line.bytes text whole) ∙ ap suc same
kept_long line kinds.Blank text count whole same = ap length (ap lines_of (append_assoc line.bytes (10 ∷ []) text) ∙ line_more line.bytes text whole) ∙ ap suc same
kept_long line kinds.Other text count whole same = ap length (ap lines_of (append_assoc line.bytes (10 ∷ []) text) ∙ line_more line.bytes text whole) ∙ ap suc same

body_long : (lines : List SourceLine) → AllByRecursion (λ line. IsWhole line.bytes) lines → length (lines_of (flat_map kept_text lines)) ≡ length (flat_map kept_number lines)
body_long [] whole = refl
body_long (line ∷ lines) whole = kept_long line line.kind (flat_map kept_text lines) (flat_map kept_number lines) whole.0 (body_long lines whole.1)

-- there is one number for each line of a group's text
pub given_long : (lines : GroupLines) → AllByRecursion (λ line. IsWhole line.bytes) lines.body → length (lines_of (given lines)) ≡ length (numbers lines)
given_long lines whole = ap length (line_more (codes "cosim 1") (flat_map kept_text lines.body) refl) ∙ ap suc (body_long lines.body whole)

front_by : (P : SourceLine → Type 0) (line : SourceLine) (kind : LineKind) (behind : Parted) → P line → AllByRecursion P behind.prefix
    → AllByRecursion P (with_line line kind behind).prefix
front_by P line (kinds.Begins name) behind one all = tt
front_by P line kinds.Main behind one all = (one, all)
front_by P line (kinds.In bind) behind one all = (one, all)
front_by P line (kinds.Out bind) behind one all = (one, all)
front_by P line kinds.Opens behind one all = (one, all)
front_by P line kinds.Ends behind one all = (one, all)
front_by P line kinds.Connects behind one all = (one, all)
front_by P line kinds.Blank behind one all = (one, all)
front_by P line kinds.Other behind one all = (one, all)

front_keeps : (P : SourceLine → Type 0) (lines : List SourceLine) → AllByRecursion P lines → AllByRecursion P (parted lines).prefix
front_keeps P [] all = tt
front_keeps P (line ∷ lines) all = front_by P line line.kind (parted lines) all.0 (front_keeps P lines all.1)

groups_by : (P : SourceLine → Type 0) (line : SourceLine) (kind : LineKind) (behind : Parted) → AllByRecursion P behind.prefix
    → AllByRecursion (λ group. AllByRecursion P group.body) behind.groups
    → AllByRecursion (λ group. AllByRecursion P group.body) (with_line line kind behind).groups
groups_by P line (kinds.Begins name) behind prefix all = (prefix, all)
groups_by P line kinds.Main behind prefix all = all
groups_by P line (kinds.In bind) behind prefix all = all
groups_by P line (kinds.Out bind) behind prefix all = all
groups_by P line kinds.Opens behind prefix all = all
groups_by P line kinds.Ends behind prefix all = all
groups_by P line kinds.Connects behind prefix all = all
groups_by P line kinds.Blank behind prefix all = all
groups_by P line kinds.Other behind prefix all = all

-- a property of all lines is one of those of the groups
pub groups_keep : (P : SourceLine → Type 0) (lines : List SourceLine) → AllByRecursion P lines
    → AllByRecursion (λ group. AllByRecursion P group.body) (groups_of lines)
groups_keep P [] all = tt
groups_keep P (line ∷ lines) all = groups_by P line line.kind (parted lines) (front_keeps P lines all.1) (groups_keep P lines all.1)

-- ---- Groups that are read

-- Groups of a text are read up to this rest.
pub record ReadSoFar (text rest : List ℕ) (number : ℕ) (made : List Group) (heads : List ℕ) : Type 0 where
  pub lines : List SourceLine
  pub are_lines : AreLines 1 text lines
  pub left : List SourceLine
  pub are_left : AreLines (number + 1) rest left
  pub done : List GroupLines
  pub cut : groups_of lines ≡ done ++ groups_of left
  pub are_groups : AllZip IsGroupOf done made
  pub heads_are : heads ≡ map (λ group. group.head) done
  pub within : number + length rest ≤ length text

pub read_begin : (text : List ℕ) → ReadSoFar text text 0 [] []
read_begin text =
    let all = lines_there 1 text in
    record {
      lines = all.0;
      are_lines = all.1;
      left = all.0;
      are_left = all.1;
      done = [];
      cut = refl;
      are_groups = tt;
      heads_are = refl;
      within = omega arith;
    }

-- a line before the first group
pub read_next : (text rest line behind : List ℕ) (number : ℕ) (kind : LineKind) (made : List Group) (heads : List ℕ) → ReadSoFar text rest number made heads
    → lines_of rest ≡ line ∷ lines_of behind → length behind < length rest → IsKind (without_return line) kind
    → ((name : List ℕ) → kind ≡ kinds.Begins name → ⊥) → ReadSoFar text behind (number + 1) made heads
read_next text rest line behind number kind made heads so_far cut shorter is not =
    let next = next_line (number + 1) rest line behind kind so_far.left cut is so_far.are_left in
    let parts = ap parted next.cut ∙ not_begun (record { number = number + 1; bytes = line; kind = kind }) kind (parted next.others) not in
    let within = so_far.within in
    record {
      lines = so_far.lines;
      are_lines = so_far.are_lines;
      left = next.others;
      are_left = next.are_others;
      done = so_far.done;
      cut = so_far.cut ∙ ap (λ (all : Parted). so_far.done ++ all.groups) parts;
      are_groups = so_far.are_groups;
      heads_are = so_far.heads_are;
      within = omega (arith, within, shorter);
    }

-- A group that is collected, and has to be read.
pub record IsReady (body : Body) (group : GroupLines) : Type 0 where
  pub is_gathered : IsGathered body group
  pub some : 0 < length body.numbers
  pub long : length body.numbers ≡ length (lines_of body.text.items)

pub ready : (text : List ℕ) (head : ℕ) (name : List ℕ) (lines : List SourceLine) (old new : Body) (rest : List ℕ) (number : ℕ) → AreLines (head + 1) text lines
    → IsGathered old (record { name = []; head = head; body = [] }) → Gathers lines old new rest number
    → IsReady new (record { name = name; head = head; body = (parted lines).prefix })
ready text head name lines old new rest number are begun gathers =
    let group : GroupLines = record { name = name; head = head; body = (parted lines).prefix } in
    let done = is_gathered old new name head (parted lines).prefix begun gathers.added in
    let whole = front_keeps (λ line. IsWhole line.bytes) lines (are_whole (head + 1) text lines are) in
    record {
      is_gathered = done;
      some = let count = ap length done.numbers in omega (arith, count);
      long = ap length done.numbers ∙ sym (given_long group whole) ∙ ap (λ text. length (lines_of text)) (sym done.text);
    }

zip_more : {A B : Type 0} (R : A → B → Type 0) (xs : List A) (ys : List B) (x : A) (y : B) → AllZip R xs ys → R x y → AllZip R (xs ++ (x ∷ [])) (ys ++ (y ∷ []))
zip_more R [] [] x y all one = (one, tt)
zip_more R [] (b ∷ ys) x y all one = absurd all
zip_more R (a ∷ xs) [] x y all one = absurd all
zip_more R (a ∷ xs) (b ∷ ys) x y all one = (all.0, zip_more R xs ys x y all.1 one)

-- The next group, after those that were read.
pub record GroupAhead (text : List ℕ) (number : ℕ) (name : List ℕ) (behind : List ℕ) (made : List Group) (heads : List ℕ) : Type 0 where
  pub lines : List SourceLine
  pub are_lines : AreLines 1 text lines
  pub others : List SourceLine
  pub are_others : AreLines (number + 1) behind others
  pub done : List GroupLines
  pub cut : groups_of lines ≡ done ++ (record { name = name; head = number; body = (parted others).prefix } ∷ groups_of others)
  pub are_groups : AllZip IsGroupOf done made
  pub heads_are : heads ≡ map (λ group. group.head) done
  pub within : number + length behind ≤ length text

pub group_ahead : (text rest line behind : List ℕ) (number : ℕ) (kind : LineKind) (name : List ℕ) (made : List Group) (heads : List ℕ)
    → ReadSoFar text rest number made heads → lines_of rest ≡ line ∷ lines_of behind → length behind < length rest → IsKind (without_return line) kind
    → kind ≡ kinds.Begins name → GroupAhead text (number + 1) name behind made heads
group_ahead text rest line behind number kind name made heads so_far cut shorter is begins =
    let next = next_line (number + 1) rest line behind (kinds.Begins name) so_far.left cut (subst (IsKind (without_return line)) begins is) so_far.are_left in
    let within = so_far.within in
    record {
      lines = so_far.lines;
      are_lines = so_far.are_lines;
      others = next.others;
      are_others = next.are_others;
      done = so_far.done;
      cut = so_far.cut ∙ ap (λ lines. so_far.done ++ groups_of lines) next.cut;
      are_groups = so_far.are_groups;
      heads_are = so_far.heads_are;
      within = omega (arith, within, shorter);
    }

pub group_read : (text behind rest : List ℕ) (head number : ℕ) (name : List ℕ) (made made' : List Group) (heads heads' : List ℕ) (group : Group)
    → GroupAhead text head name behind made heads → OfLines (head + 1) behind (λ lines. IsNextGroup name head lines group rest number)
    → made' ≡ made ++ (group ∷ []) → heads' ≡ heads ++ (head ∷ []) → number + length rest ≤ head + length behind
    → ReadSoFar text rest number made' heads'
group_read text behind rest head number name made made' heads heads' group ahead read made_is heads_is fits =
    let next = read ahead.others ahead.are_others in
    let lines : GroupLines = record { name = name; head = head; body = (parted ahead.others).prefix } in
    let within = ahead.within in
    record {
      lines = ahead.lines;
      are_lines = ahead.are_lines;
      left = next.left;
      are_left = next.are_left;
      done = ahead.done ++ (lines ∷ []);
      cut = ahead.cut ∙ ap (λ groups. ahead.done ++ (lines ∷ groups)) (sym next.groups) ∙ sym (append_assoc ahead.done (lines ∷ []) (groups_of next.left));
      are_groups = subst (AllZip IsGroupOf (ahead.done ++ (lines ∷ []))) (sym made_is)
          (zip_more IsGroupOf ahead.done made lines group ahead.are_groups next.is_group);
      heads_are = heads_is ∙ ap (λ all. all ++ (head ∷ [])) ahead.heads_are
          ∙ sym (map-append (λ (group : GroupLines). group.head) ahead.done (lines ∷ []));
      within = omega (arith, within, fits);
    }

pub groups_read : (groups : List GroupLines) (made : List Group) → AllZip IsGroupOf groups made → AllByRecursion IsRead groups
groups_read [] [] all = tt
groups_read [] (group ∷ made) all = absurd all
groups_read (lines ∷ groups) [] all = absurd all
groups_read (lines ∷ groups) (group ∷ made) all = ((group, all.0), groups_read groups made all.1)

pub group_refused : (text behind : List ℕ) (head : ℕ) (name : List ℕ) (made : List Group) (heads : List ℕ) (line rule : ℕ)
    → GroupAhead text head name behind made heads
    → OfLines (head + 1) behind (λ lines. RefusesGroup (record { name = name; head = head; body = (parted lines).prefix }) line rule)
    → OfLines 1 text (λ lines. RefusesGroups (groups_of lines) line rule)
group_refused text behind head name made heads line rule ahead refuses =
    of_lines 1 text (λ lines. RefusesGroups (groups_of lines) line rule) ahead.lines ahead.are_lines
    (record {
      before = ahead.done;
      group = record { name = name; head = head; body = (parted ahead.others).prefix };
      later = groups_of ahead.others;
      cut = ahead.cut;
      read = groups_read ahead.done made ahead.are_groups;
      refuses = refuses ahead.others ahead.are_others;
    })

-- the result where a group isn't read
pub group_failed : (text behind : List ℕ) (head : ℕ) (name : List ℕ) (made : List Group) (heads : List ℕ) (why : NestFault)
    → GroupAhead text head name behind made heads → OfLines (head + 1) behind (λ lines. NextGroupIs name head lines (Err why))
    → OfLines 1 text (λ lines. GroupsAnswer (groups_of lines) (Err why))
group_failed text behind head name made heads (fault.Line line rule) ahead refuses = group_refused text behind head name made heads line rule ahead refuses
group_failed text behind head name made heads fault.NoMemory ahead refuses = λ lines are. tt

pub read_end : (text rest : List ℕ) (number : ℕ) (made : List Group) (heads : List ℕ) → ReadSoFar text rest number made heads → length rest ≡ 0
    → OfLines 1 text (λ lines. AllZip IsGroupOf (groups_of lines) made × (heads ≡ map (λ group. group.head) (groups_of lines)))
read_end text rest number made heads so_far none =
    let all : groups_of so_far.lines ≡ so_far.done =
    so_far.cut ∙ ap (λ lines. so_far.done ++ groups_of lines) (none_left (number + 1) rest so_far.left none so_far.are_left) ∙ append-nil so_far.done in
    of_lines 1 text (λ lines. AllZip IsGroupOf (groups_of lines) made × (heads ≡ map (λ group. group.head) (groups_of lines))) so_far.lines
    so_far.are_lines
    (subst (λ groups. AllZip IsGroupOf groups made) (sym all) so_far.are_groups, so_far.heads_are ∙ ap (map (λ (group : GroupLines). group.head)) (sym all))
