-- Lines of states that are read one after the other.
use Rattle.std.proofs.Common.{◌≡◌, ℕ, suc, ◌+◌, ◌-◌, ◌<◌, ◌≤◌, ℤ, List, [], ◌∷◌, ◌++◌, map, length, length-append, inr, Option, Some, None}
use Rattle.std.proofs.Common.{refl, sym, ap, subst, ◌∙◌, arith, append-nil, append_assoc}
use Rattle.std.specs.Prelude.{Bool, true, false, cond, codes, Result, Ok, Err, IsErrAnd}
use Rattle.std.specs.List.{AllByRecursion, flat_map}
use Rattle.std.specs.Option.{option_and_then, option_map}
use Rattle.std.proofs.lemmas.List.{append_cancel_left, map-append}
use Rattle.std.proofs.lemmas.Grind.{flat_map-append}
use Rattle.std.proofs.lemmas.Option.{none-some}
use Rattle.unit_print.specs.Fitting.{is_word}
use Rattle.list_laws.proofs.Lists.{each_more}
use Rattle.save_point.specs.Reading.{PutsState, PutsWords, ReadsSaved, fault_at, first_part, other_parts, parts_in, parts_of}
use Rattle.save_point.specs.Reading.{state_in, with_word, word_in, words_in}
use Rattle.save_point.specs.SavedTexts.{AreNumbers, BeginsState, BeginsWithLines, BreaksAtLine, IsFirstLine, IsSaved, IsState, IsStateLine, LacksLine, NamedState, point_line, row_line, saved_lines}
use Rattle.save_point.specs.SavedTexts.{spaced_words, state_line, title_line}
use Rattle.save_point.specs.declared.fault.SavedFault.{SavedFault}
use Rattle.save_point.proofs.LineLaws.{begins_long, begins_more}
use Rattle.save_point.proofs.PartTexts.{cut_left, space_between, state_bytes_asked, state_bytes_told}
use Rattle.super_time.specs.declared.point.Point.{Point}
use Rattle.text_tokens.specs.declared.fault.Unread.{Unread}
use Rattle.text_tokens.specs.declared.fault.Unread.TheVariants as unread

-- What the lines of states begin with.
abbrev pub state_front : List ℕ
state_front = codes "state "

-- The lines of a row and a point, and then others.
abbrev saved_front : ℕ → Point → List (List ℕ) → List (List ℕ)
saved_front row point lines = title_line ∷ row_line row ∷ point_line point ∷ lines

-- ---- Bytes that are left

abbrev pub bytes_left : Option (List ℕ) → ℕ
bytes_left None = 0
bytes_left (Some bytes) = suc (length bytes)

pub fewer_left : (bytes : List ℕ) (others : Option (List ℕ)) → other_parts bytes ≡ others → bytes_left others < suc (length bytes)
fewer_left bytes None is = omega arith
fewer_left bytes (Some others) is =
    let long = ap length (space_between bytes others is) in
    omega (arith, long, length-append (first_part bytes) (32 ∷ others))

-- ---- Words that were read so far

-- The words of all parts are those that were read, and those of the parts that are left.
pub record PutSoFar (all left : List (List ℕ)) (words now : List ℤ) (count : ℕ) : Type 0 where
  pub front : List ℤ
  pub told : words_in all ≡ option_map (λ others. front ++ others) (words_in left)
  pub put : now ≡ words ++ front
  pub many : count ≡ length front

map_same : (words : Option (List ℤ)) → words ≡ option_map (λ others. [] ++ others) words
map_same None = refl
map_same (Some words) = refl

pub put_none : (all : List (List ℕ)) (words : List ℤ) → PutSoFar all all words words 0
put_none all words = record { front = []; told = map_same (words_in all); put = sym (append-nil words); many = refl }

map_more : (front : List ℤ) (word : ℤ) (words : Option (List ℤ))
    → option_map (λ others. front ++ others) (with_word word words) ≡ option_map (λ others. (front ++ (word ∷ [])) ++ others) words
map_more front word None = refl
map_more front word (Some words) = ap Some (sym (append_assoc front (word ∷ []) words))

-- The next part is a word.
told_next : (front : List ℤ) (part : List ℕ) (others : List (List ℕ)) (word : ℤ) (told : Option ℤ) → told ≡ Some word
    → option_map (λ all. front ++ all) (option_and_then (λ one. with_word one (words_in others)) told)
    ≡ option_map (λ all. (front ++ (word ∷ [])) ++ all) (words_in others)
told_next front part others word told is =
    ap (λ found. option_map (λ all. front ++ all) (option_and_then (λ one. with_word one (words_in others)) found)) is
    ∙ map_more front word (words_in others)

pub put_next : (all left others : List (List ℕ)) (part : List ℕ) (words now next : List ℤ) (count : ℕ) (word : ℤ) → PutSoFar all left words now count
    → left ≡ part ∷ others → word_in part ≡ Some word → next ≡ now ++ (word ∷ []) → PutSoFar all others words next (count + 1)
put_next all left others part words now next count word so_far left_is word_is next_is = record {
  front = so_far.front ++ (word ∷ []);
  told =
      so_far.told ∙ ap (λ parts. option_map (λ more. so_far.front ++ more) (words_in parts)) left_is
      ∙ told_next so_far.front part others word (word_in part) word_is;
  put = next_is ∙ ap (λ words. words ++ (word ∷ [])) so_far.put ∙ append_assoc words so_far.front (word ∷ []);
  many = omega (arith, so_far.many, length-append so_far.front (word ∷ []));
}

-- A part is not a word.
pub put_stops : (all left others : List (List ℕ)) (part : List ℕ) (words now : List ℤ) (count : ℕ) → PutSoFar all left words now count
    → left ≡ part ∷ others → word_in part ≡ None → words_in all ≡ None
put_stops all left others part words now count so_far left_is none =
    so_far.told ∙ ap (λ parts. option_map (λ more. so_far.front ++ more) (words_in parts)) left_is
    ∙ ap (λ found. option_map (λ more. so_far.front ++ more) (option_and_then (λ one. with_word one (words_in others)) found)) none

pub put_all : (all : List (List ℕ)) (words now : List ℤ) (count : ℕ) → PutSoFar all [] words now count → PutsWords all words now count
put_all all words now count so_far = record {
  more = so_far.front;
  told = so_far.told ∙ ap Some (append-nil so_far.front);
  put = so_far.put;
  many = so_far.many;
}

-- ---- The parts of a state

abbrev named_by : List ℕ → List ℤ → NamedState
named_by name words = record { name = name; words = words }

no_state_by : (name : List ℕ) (is_name : Bool) → cond is_name (option_map (named_by name) None) None ≡ None
no_state_by name true = refl
no_state_by name false = refl

pub no_name : (bytes part : List ℕ) (others : Option (List ℕ)) → part ≡ first_part bytes → others ≡ other_parts bytes → is_word part ≡ false
    → state_in (parts_of bytes) ≡ None
no_name bytes part others part_is others_are is =
    ap state_in (cut_left bytes part others part_is others_are)
    ∙ ap (λ is_name. cond is_name (option_map (named_by part) (words_in (parts_in others))) None) is

pub no_words : (bytes part : List ℕ) (others : Option (List ℕ)) → part ≡ first_part bytes → others ≡ other_parts bytes → words_in (parts_in others) ≡ None
    → state_in (parts_of bytes) ≡ None
no_words bytes part others part_is others_are none =
    ap state_in (cut_left bytes part others part_is others_are)
    ∙ ap (λ words. cond (is_word part) (option_map (named_by part) words) None) none ∙ no_state_by part (is_word part)

pub puts_state : (bytes part : List ℕ) (others : Option (List ℕ)) (names names' : List (List ℕ)) (counts counts' : List ℕ) (words words' : List ℤ) (count : ℕ)
    → part ≡ first_part bytes → others ≡ other_parts bytes → is_word part ≡ true → PutsWords (parts_in others) words words' count
    → names' ≡ names ++ (part ∷ []) → counts' ≡ counts ++ (count ∷ []) → PutsState (parts_of bytes) names counts words names' counts' words'
puts_state bytes part others names names' counts counts' words words' count part_is others_are is puts names_are counts_are = record {
  state = named_by part puts.more;
  told =
      ap state_in (cut_left bytes part others part_is others_are)
      ∙ ap (λ is_name. cond is_name (option_map (named_by part) (words_in (parts_in others))) None) is ∙ ap (option_map (named_by part)) puts.told;
  names_are = names_are;
  counts_are = counts_are ∙ ap (λ n. counts ++ (n ∷ [])) puts.many;
  words_are = puts.put;
}

-- An error that is passed on.
pub handed : {T E : Type 0} (result : Result T E) (found wanted : E) → IsErrAnd result (λ one. one ≡ found) → result ≡ Err wanted → found ≡ wanted
handed (Ok done) found wanted is same = absurd is
handed (Err one) found wanted is same = sym is ∙ errs one wanted same
  where
    errs : {T E : Type 0} (one other : E) → ◌≡◌ {A = Result T E} (Err one) (Err other) → one ≡ other
    errs one other e = cc

-- ---- States that were read so far

-- The lines of the row, the point and some states were read, and the rest is left.
pub record ReadSoFar (text rest : List ℕ) (row : ℕ) (point : Point) (number : ℕ) (names : List (List ℕ)) (counts : List ℕ) (words : List ℤ) : Type 0 where
  pub states : List NamedState
  pub begins : BeginsWithLines text (saved_lines row point states) rest
  pub are_states : AllByRecursion IsState states
  pub names_are : names ≡ map (λ state. state.name) states
  pub counts_are : counts ≡ map (λ state. length state.words) states
  pub words_are : words ≡ flat_map (λ state. state.words) states
  pub place : number ≡ length states + 3

pub read_none : (text rest : List ℕ) (row : ℕ) (point : Point) → BeginsWithLines text (saved_lines row point []) rest → ReadSoFar text rest row point 3 [] [] []
read_none text rest row point begins =
    record { states = []; begins = begins; are_states = tt; names_are = refl; counts_are = refl; words_are = refl; place = refl }

-- Lines with one more at the end.
lines_more : (row : ℕ) (point : Point) (states : List NamedState) (state : NamedState)
    → saved_lines row point states ++ (state_line state ∷ []) ≡ saved_lines row point (states ++ (state ∷ []))
lines_more row point states state =
    ap (λ lines. saved_front row point lines) (sym (map-append state_line states (state ∷ [])))

pub read_next : (text rest line behind : List ℕ) (row : ℕ) (point : Point) (number : ℕ) (names names' : List (List ℕ)) (counts counts' : List ℕ)
    (words words' : List ℤ) → ReadSoFar text rest row point number names counts words → IsFirstLine rest (state_front ++ line) behind
    → PutsState (parts_of line) names counts words names' counts' words' → ReadSoFar text behind row point (number + 1) names' counts' words'
read_next text rest line behind row point number names names' counts counts' words words' so_far first puts =
    let told = state_bytes_told line puts.state puts.told in
    let state_is : state_front ++ line ≡ state_line puts.state = ap (λ bytes. state_front ++ bytes) told.1 in
    record {
      states = so_far.states ++ (puts.state ∷ []);
      begins =
          subst (λ lines. BeginsWithLines text lines behind) (lines_more row point so_far.states puts.state)
          (begins_more text (state_line puts.state) rest behind (saved_lines row point so_far.states) so_far.begins
          (subst (λ one. IsFirstLine rest one behind) state_is first));
      are_states = each_more IsState so_far.states puts.state so_far.are_states told.0;
      names_are =
          puts.names_are ∙ ap (λ all. all ++ (puts.state.name ∷ [])) so_far.names_are
          ∙ sym (map-append (λ (state : NamedState). state.name) so_far.states (puts.state ∷ []));
      counts_are =
          puts.counts_are ∙ ap (λ all. all ++ (length puts.state.words ∷ [])) so_far.counts_are
          ∙ sym (map-append (λ (state : NamedState). length state.words) so_far.states (puts.state ∷ []));
      words_are =
          puts.words_are ∙ ap (λ all. all ++ puts.state.words) so_far.words_are
          ∙ ap (λ more. flat_map (λ (state : NamedState). state.words) so_far.states ++ more) (sym (append-nil puts.state.words))
          ∙ sym (flat_map-append (λ (state : NamedState). state.words) so_far.states (puts.state ∷ []));
      place = omega (arith, so_far.place, length-append so_far.states (puts.state ∷ []));
    }

pub read_all : (text rest : List ℕ) (row : ℕ) (point : Point) (number : ℕ) (names : List (List ℕ)) (counts : List ℕ) (words : List ℤ)
    → AreNumbers row point → ReadSoFar text rest row point number names counts words → LacksLine BeginsState rest
    → IsSaved text (record { row = row; point = point; names = names; counts = counts; states = words; rest = length text - length rest })
read_all text rest row point number names counts words numbers so_far no_more = record {
  states = so_far.states;
  behind = rest;
  begins = so_far.begins;
  numbers = numbers;
  are_states = so_far.are_states;
  no_more = no_more;
  names_are = so_far.names_are;
  counts_are = so_far.counts_are;
  words_are = so_far.words_are;
  rest_is = place (length text) (length rest) (begins_long text rest (saved_lines row point so_far.states) so_far.begins);
}
  where
    place : (all behind : ℕ) → behind ≤ all → all - behind + behind ≡ all
    place all behind within = omega (arith, within)

-- Bytes that are no state come after the beginning of no state's line.
pub no_state : (line : List ℕ) → state_in (parts_of line) ≡ None → (state : NamedState) → IsStateLine (state_front ++ line) state → ⊥
no_state line none state is =
    let same = append_cancel_left state_front line (state.name ++ spaced_words state.words) is.1 in
    none-some state (sym none ∙ ap (λ bytes. state_in (parts_of bytes)) same ∙ state_bytes_asked state is.0)

pub read_breaks : (text rest line behind : List ℕ) (row : ℕ) (point : Point) (number : ℕ) (names : List (List ℕ)) (counts : List ℕ) (words : List ℤ)
    → AreNumbers row point → ReadSoFar text rest row point number names counts words → IsFirstLine rest (state_front ++ line) behind
    → state_in (parts_of line) ≡ None → BreaksAtLine text (number + 1)
read_breaks text rest line behind row point number names counts words numbers so_far first none = inr (inr (inr (record {
  row = row;
  point = point;
  states = so_far.states;
  rest = rest;
  line = state_front ++ line;
  behind = behind;
  begins = so_far.begins;
  numbers = numbers;
  are_states = so_far.are_states;
  first = first;
  may_be = (line, refl);
  is_none = no_state line none;
  place = omega (arith, so_far.place);
})))

pub told_at : (text : List ℕ) (why : Unread) (number : ℕ) (fault : SavedFault) → (why ≡ unread.NoForm → BreaksAtLine text number) → fault ≡ fault_at why number
    → ReadsSaved text (Err fault)
told_at text unread.NoForm number fault breaks is = subst (λ one. ReadsSaved text (Err one)) (sym is) (breaks refl)
told_at text unread.NoMemory number fault breaks is = subst (λ one. ReadsSaved text (Err one)) (sym is) tt
