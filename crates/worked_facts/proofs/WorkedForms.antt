-- The forms of the lines of worked texts.
use Rattle.std.proofs.Common.{◌≡◌, ℕ, List, [], ◌∷◌, ◌++◌, refl, false, true, arith, Some}
use Rattle.std.specs.Prelude.{codes, pos, neg_ℤ}
use Rattle.fixed_words.specs.declared.types.Literal.TheVariants as literal
use Rattle.fixed_words.specs.declared.types.Ty.TheVariants as types
use Rattle.unit_tree.specs.LineForms.{HasForm, WritesForm}
use Rattle.unit_tree.specs.Lines.{code_of}
use Rattle.unit_tree.specs.Phrases as phrase
use Rattle.unit_tree.specs.declared.expr.BinOp.TheVariants as by
use Rattle.unit_tree.specs.declared.expr.Expr as expr
use Rattle.unit_tree.specs.declared.expr.UnOp.TheVariants as of
use Rattle.unit_tree.specs.declared.line_form.LineForm.{LineForm}
use Rattle.unit_tree.specs.declared.line_form.LineForm.TheVariants as form
use Rattle.unit_tree.specs.declared.token.Keyword.TheVariants as word
use Rattle.unit_tree.specs.declared.token.Symbol.TheVariants as sign
use Rattle.unit_tree.specs.declared.token.Token.{Token}
use Rattle.unit_tree.specs.declared.token.Token.TheVariants as token
use Rattle.text_tokens.specs.Scanning.{keyword_of, symbol_of, word_at, number_at, symbol_at, number_token, bounded_number, token_at}
use Rattle.worked_facts.specs.WorkedTexts.{letters}
use Rattle.text_tokens.proofs.Spelled.{spells, tokens_in}

-- A line of at most thirty tokens has the form of its tokens.
has_form : (some : LineForm) (line : List ℕ) (tokens : List Token) → tokens_in 30 (code_of line) ≡ Some tokens → WritesForm some tokens → HasForm some line
has_form some line tokens is written = record { tokens = tokens; spelled = spells 30 (code_of line) tokens is; written = written }

pub header : HasForm (form.Header 1) (codes "cosim 01")
unfolding tokens_in keyword_of symbol_of word_at number_at symbol_at number_token bounded_number token_at
header = has_form (form.Header 1) (codes "cosim 01") (token.Keyword word.Cosim ∷ token.Number 1 0 ∷ []) refl
    (record { tail = []; spelled = refl; tail_is = refl; counts = (omega arith, omega arith) })

pub unit_line : HasForm (form.Unit (codes "Counter")) (codes "unit Counter # one state")
unfolding tokens_in keyword_of symbol_of word_at number_at symbol_at number_token bounded_number token_at
unit_line =
    has_form (form.Unit (codes "Counter")) (codes "unit Counter # one state") (token.Keyword word.Unit ∷ token.Name (codes "Counter") ∷ []) refl
    (record { tail = []; spelled = refl; tail_is = refl; counts = _ })

pub state_line : HasForm (form.State (record { name = codes "n"; ty = types.Int64; start = literal.Number (pos 0) 0 })) (codes "  state n : Int64 = 00")
unfolding tokens_in keyword_of symbol_of word_at number_at symbol_at number_token bounded_number token_at
state_line =
    has_form (form.State (record { name = codes "n"; ty = types.Int64; start = literal.Number (pos 0) 0 })) (codes "  state n : Int64 = 00")
    (token.Keyword word.State ∷ token.Name (codes "n") ∷ token.Symbol sign.Colon ∷ token.Name (codes "Int64") ∷ token.Symbol sign.Is ∷ token.Number 0 0
    ∷ []) refl
    (record {
      tail = token.Number 0 0 ∷ [];
      spelled = refl;
      tail_is =
          record { negative = false; digits = 0; spelled = refl; value = refl; fits = refl };
      counts = _;
    })

pub output_line : HasForm (form.Output (record { name = codes "y"; ty = types.Int64; needs = []; value = expr.Var (codes "n") }))
    (codes "  output y : Int64 = n")
unfolding tokens_in keyword_of symbol_of word_at number_at symbol_at number_token bounded_number token_at
output_line =
    has_form (form.Output (record { name = codes "y"; ty = types.Int64; needs = []; value = expr.Var (codes "n") })) (codes "  output y : Int64 = n")
    (token.Keyword word.Output ∷ token.Name (codes "y") ∷ token.Symbol sign.Colon ∷ token.Name (codes "Int64") ∷ token.Symbol sign.Is ∷ token.Name (codes "n")
    ∷ []) refl
    (record {
      tail = token.Name (codes "n") ∷ [];
      spelled = refl;
      tail_is =
          record { phrase = phrase.Var (codes "n"); is_tree = refl; spelled = refl; is_grammatical = refl };
      counts = _;
    })

pub step_line : HasForm form.Step (codes "  step")
unfolding tokens_in keyword_of symbol_of word_at number_at symbol_at number_token bounded_number token_at
step_line = has_form form.Step (codes "  step") (token.Keyword word.Step ∷ []) refl (record { tail = []; spelled = refl; tail_is = refl; counts = _ })

pub assign_line : HasForm (form.Assign (codes "n") (expr.Binary by.Add (expr.Var (codes "n")) (expr.Number (pos 1) 0))) (codes "    n := (n) + 1")
unfolding tokens_in keyword_of symbol_of word_at number_at symbol_at number_token bounded_number token_at
assign_line =
    has_form (form.Assign (codes "n") (expr.Binary by.Add (expr.Var (codes "n")) (expr.Number (pos 1) 0))) (codes "    n := (n) + 1")
    (token.Name (codes "n") ∷ token.Symbol sign.Assign ∷ token.Symbol sign.Open ∷ token.Name (codes "n") ∷ token.Symbol sign.Close ∷ token.Symbol sign.Plus
    ∷ token.Number 1 0 ∷ []) refl
    (record {
      tail = token.Symbol sign.Open ∷ token.Name (codes "n") ∷ token.Symbol sign.Close ∷ token.Symbol sign.Plus ∷ token.Number 1 0 ∷ [];
      spelled =
          refl;
      tail_is =
          record {
            phrase = phrase.Binary by.Add (phrase.Parens (phrase.Var (codes "n"))) (phrase.Number 1 0);
            is_tree = refl;
            spelled =
                refl;
            is_grammatical = refl;
          };
      counts =
          _;
    })

pub step_end : HasForm form.End (codes "  end")
unfolding tokens_in keyword_of symbol_of word_at number_at symbol_at number_token bounded_number token_at
step_end = has_form form.End (codes "  end") (token.Keyword word.End ∷ []) refl (record { tail = []; spelled = refl; tail_is = refl; counts = _ })

pub end_line : HasForm form.End (codes "end")
unfolding tokens_in keyword_of symbol_of word_at number_at symbol_at number_token bounded_number token_at
end_line = has_form form.End (codes "end") (token.Keyword word.End ∷ []) refl (record { tail = []; spelled = refl; tail_is = refl; counts = _ })

pub instance_line : HasForm (form.Instance (codes "a") (codes "Counter")) (codes "instance a : Counter")
unfolding tokens_in keyword_of symbol_of word_at number_at symbol_at number_token bounded_number token_at
instance_line =
    has_form (form.Instance (codes "a") (codes "Counter")) (codes "instance a : Counter")
    (token.Keyword word.Instance ∷ token.Name (codes "a") ∷ token.Symbol sign.Colon ∷ token.Name (codes "Counter") ∷ []) refl
    (record { tail = []; spelled = refl; tail_is = refl; counts = _ })

pub stop_line : HasForm (form.Stop (literal.Number (pos 3) 0)) (codes "stop 3")
unfolding tokens_in keyword_of symbol_of word_at number_at symbol_at number_token bounded_number token_at
stop_line =
    has_form (form.Stop (literal.Number (pos 3) 0)) (codes "stop 3") (token.Keyword word.Stop ∷ token.Number 3 0 ∷ []) refl
    (record { tail = token.Number 3 0 ∷ []; spelled = refl; tail_is = (3, omega arith, refl, refl); counts = _ })

pub longest_line : HasForm (form.Longest (literal.Number (pos 1) 0)) (codes "longest 1")
unfolding tokens_in keyword_of symbol_of word_at number_at symbol_at number_token bounded_number token_at
longest_line =
    has_form (form.Longest (literal.Number (pos 1) 0)) (codes "longest 1") (token.Keyword word.Longest ∷ token.Number 1 0 ∷ []) refl
    (record { tail = token.Number 1 0 ∷ []; spelled = refl; tail_is = (1, omega arith, refl, refl); counts = _ })

pub plain_header : HasForm (form.Header 1) (codes "cosim 1")
unfolding tokens_in keyword_of symbol_of word_at number_at symbol_at number_token bounded_number token_at
plain_header =
    has_form (form.Header 1) (codes "cosim 1") (token.Keyword word.Cosim ∷ token.Number 1 0 ∷ []) refl
    (record { tail = []; spelled = refl; tail_is = refl; counts = (omega arith, omega arith) })

pub sample_line : HasForm (form.Sample (record { instance = codes "a"; port = codes "y" })) (codes "sample a.y")
unfolding tokens_in keyword_of symbol_of word_at number_at symbol_at number_token bounded_number token_at
sample_line =
    has_form (form.Sample (record { instance = codes "a"; port = codes "y" })) (codes "sample a.y")
    (token.Keyword word.Sample ∷ token.Name (codes "a") ∷ token.Symbol sign.Point ∷ token.Name (codes "y") ∷ []) refl
    (record { tail = []; spelled = refl; tail_is = refl; counts = _ })

pub half_stop : HasForm (form.Stop (literal.Number (pos 5) 1)) (codes "stop 0.5")
unfolding tokens_in keyword_of symbol_of word_at number_at symbol_at number_token bounded_number token_at
half_stop =
    has_form (form.Stop (literal.Number (pos 5) 1)) (codes "stop 0.5") (token.Keyword word.Stop ∷ token.Number 5 1 ∷ []) refl
    (record { tail = token.Number 5 1 ∷ []; spelled = refl; tail_is = (5, omega arith, refl, refl); counts = _ })

pub zero_line : HasForm (form.Zero 0) (codes "zero 0")
unfolding tokens_in keyword_of symbol_of word_at number_at symbol_at number_token bounded_number token_at
zero_line =
    has_form (form.Zero 0) (codes "zero 0") (token.Keyword word.Zero ∷ token.Number 0 0 ∷ []) refl
    (record { tail = []; spelled = refl; tail_is = refl; counts = omega arith })

pub unit_a : HasForm (form.Unit (codes "A")) (codes "unit A")
unfolding tokens_in keyword_of symbol_of word_at number_at symbol_at number_token bounded_number token_at
unit_a = has_form (form.Unit (codes "A")) (codes "unit A") (token.Keyword word.Unit ∷ token.Name (codes "A") ∷ []) refl
    (record { tail = []; spelled = refl; tail_is = refl; counts = _ })

pub max_line : HasForm (form.Max (expr.Var (codes "u"))) (codes "max(u)")
unfolding tokens_in keyword_of symbol_of word_at number_at symbol_at number_token bounded_number token_at
max_line =
    has_form (form.Max (expr.Var (codes "u"))) (codes "max(u)")
    (token.Keyword word.Max ∷ token.Symbol sign.Open ∷ token.Name (codes "u") ∷ token.Symbol sign.Close ∷ []) refl
    (record {
      tail = token.Symbol sign.Open ∷ token.Name (codes "u") ∷ token.Symbol sign.Close ∷ [];
      spelled = refl;
      tail_is =
          record { phrase = phrase.Parens (phrase.Var (codes "u")); is_tree = refl; spelled = refl; is_grammatical = refl };
      counts = _;
    })

pub bool_output : HasForm
    (form.Output
    (record {
      name = codes "y";
      ty = types.Bool;
      needs = codes "u" ∷ [];
      value =
          expr.Binary by.And (expr.Truth true) (expr.Unary of.Not (expr.Binary by.Lt (expr.Var (codes "n")) (expr.Number (pos 5) 1)));
    }))
    (codes "output y:Bool needs u=true and not n<0.5")
unfolding tokens_in keyword_of symbol_of word_at number_at symbol_at number_token bounded_number token_at
bool_output =
    has_form
    (form.Output
    (record {
      name = codes "y";
      ty = types.Bool;
      needs = codes "u" ∷ [];
      value =
          expr.Binary by.And (expr.Truth true) (expr.Unary of.Not (expr.Binary by.Lt (expr.Var (codes "n")) (expr.Number (pos 5) 1)));
    }))
    (codes "output y:Bool needs u=true and not n<0.5")
    (token.Keyword word.Output ∷ token.Name (codes "y") ∷ token.Symbol sign.Colon ∷ token.Name (codes "Bool") ∷ token.Keyword word.Needs
    ∷ token.Name (codes "u") ∷ token.Symbol sign.Is ∷ token.Keyword word.True ∷ token.Keyword word.And ∷ token.Keyword word.Not ∷ token.Name (codes "n")
    ∷ token.Symbol sign.Less ∷ token.Number 5 1 ∷ []) refl
    (record {
      tail =
          token.Keyword word.True ∷ token.Keyword word.And ∷ token.Keyword word.Not ∷ token.Name (codes "n") ∷ token.Symbol sign.Less ∷ token.Number 5 1 ∷ [];
      spelled =
          refl;
      tail_is =
          record {
            phrase =
                phrase.Binary by.And (phrase.Truth true) (phrase.Unary of.Not (phrase.Binary by.Lt (phrase.Var (codes "n")) (phrase.Number 5 1)));
            is_tree =
                refl;
            spelled = refl;
            is_grammatical = refl;
          };
      counts =
          _;
    })

pub input_line : HasForm (form.Input (record { name = codes "u"; ty = types.Int64; start = literal.Number (neg_ℤ (pos 9223372036854775808)) 0 }))
    (codes "input u:Int64=-9223372036854775808")
unfolding tokens_in keyword_of symbol_of word_at number_at symbol_at number_token bounded_number token_at
input_line =
    has_form (form.Input (record { name = codes "u"; ty = types.Int64; start = literal.Number (neg_ℤ (pos 9223372036854775808)) 0 }))
    (codes "input u:Int64=-9223372036854775808")
    (token.Keyword word.Input ∷ token.Name (codes "u") ∷ token.Symbol sign.Colon ∷ token.Name (codes "Int64") ∷ token.Symbol sign.Is ∷ token.Symbol sign.Minus
    ∷ token.Number 9223372036854775808 0 ∷ []) refl
    (record {
      tail = token.Symbol sign.Minus ∷ token.Number 9223372036854775808 0 ∷ [];
      spelled = refl;
      tail_is =
          record { negative = true; digits = 9223372036854775808; spelled = refl; value = refl; fits = refl };
      counts = _;
    })

pub fixed_state : HasForm (form.State (record { name = codes "n"; ty = types.Fixed 1; start = literal.Number (pos 0) 1 })) (codes "state n:Fixed 01=- 0.0")
unfolding tokens_in keyword_of symbol_of word_at number_at symbol_at number_token bounded_number token_at
fixed_state =
    has_form (form.State (record { name = codes "n"; ty = types.Fixed 1; start = literal.Number (pos 0) 1 })) (codes "state n:Fixed 01=- 0.0")
    (token.Keyword word.State ∷ token.Name (codes "n") ∷ token.Symbol sign.Colon ∷ token.Name (codes "Fixed") ∷ token.Number 1 0 ∷ token.Symbol sign.Is
    ∷ token.Symbol sign.Minus ∷ token.Number 0 1 ∷ []) refl
    (record {
      tail = token.Symbol sign.Minus ∷ token.Number 0 1 ∷ [];
      spelled = refl;
      tail_is =
          record { negative = true; digits = 0; spelled = refl; value = refl; fits = refl };
      counts = omega arith;
    })

pub resolution_line : HasForm (form.Resolution 1) (codes "resolution 1")
unfolding tokens_in keyword_of symbol_of word_at number_at symbol_at number_token bounded_number token_at
resolution_line =
    has_form (form.Resolution 1) (codes "resolution 1") (token.Keyword word.Resolution ∷ token.Number 1 0 ∷ []) refl
    (record { tail = []; spelled = refl; tail_is = refl; counts = omega arith })

pub rows_line : HasForm (form.Rows 100000) (codes "rows 100000")
unfolding tokens_in keyword_of symbol_of word_at number_at symbol_at number_token bounded_number token_at
rows_line =
    has_form (form.Rows 100000) (codes "rows 100000") (token.Keyword word.Rows ∷ token.Number 100000 0 ∷ []) refl
    (record { tail = []; spelled = refl; tail_is = refl; counts = (omega arith, omega arith) })

pub connect_line : HasForm
    (form.Connect (record { from = record { instance = codes "a"; port = codes "y" }; to = record { instance = codes "b"; port = codes "u" } }))
    (codes "connect a.y->b.u")
unfolding tokens_in keyword_of symbol_of word_at number_at symbol_at number_token bounded_number token_at
connect_line =
    has_form (form.Connect (record { from = record { instance = codes "a"; port = codes "y" }; to = record { instance = codes "b"; port = codes "u" } }))
    (codes "connect a.y->b.u")
    (token.Keyword word.Connect ∷ token.Name (codes "a") ∷ token.Symbol sign.Point ∷ token.Name (codes "y") ∷ token.Symbol sign.Arrow ∷ token.Name (codes "b")
    ∷ token.Symbol sign.Point ∷ token.Name (codes "u") ∷ []) refl
    (record { tail = []; spelled = refl; tail_is = refl; counts = _ })

pub instance_a : HasForm (form.Instance (codes "a") (codes "A")) (codes "instance a:A")
unfolding tokens_in keyword_of symbol_of word_at number_at symbol_at number_token bounded_number token_at
instance_a =
    has_form (form.Instance (codes "a") (codes "A")) (codes "instance a:A")
    (token.Keyword word.Instance ∷ token.Name (codes "a") ∷ token.Symbol sign.Colon ∷ token.Name (codes "A") ∷ []) refl
    (record { tail = []; spelled = refl; tail_is = refl; counts = _ })

pub setting_line : HasForm (form.Setting (record { name = codes "k"; value = literal.Truth false })) (codes "k=false")
unfolding tokens_in keyword_of symbol_of word_at number_at symbol_at number_token bounded_number token_at
setting_line =
    has_form (form.Setting (record { name = codes "k"; value = literal.Truth false })) (codes "k=false")
    (token.Name (codes "k") ∷ token.Symbol sign.Is ∷ token.Keyword word.False ∷ []) refl
    (record { tail = token.Keyword word.False ∷ []; spelled = refl; tail_is = refl; counts = _ })

pub unit_mode : HasForm (form.Unit (codes "Mode")) (codes "unit Mode")
unfolding tokens_in keyword_of symbol_of word_at number_at symbol_at number_token bounded_number token_at
unit_mode =
    has_form (form.Unit (codes "Mode")) (codes "unit Mode") (token.Keyword word.Unit ∷ token.Name (codes "Mode") ∷ []) refl
    (record { tail = []; spelled = refl; tail_is = refl; counts = _ })

pub param_k : HasForm (form.Param (record { name = codes "k"; ty = types.Int8; start = literal.Number (neg_ℤ (pos 128)) 0 })) (codes "param k:Int8=-128")
unfolding tokens_in keyword_of symbol_of word_at number_at symbol_at number_token bounded_number token_at
param_k =
    has_form (form.Param (record { name = codes "k"; ty = types.Int8; start = literal.Number (neg_ℤ (pos 128)) 0 })) (codes "param k:Int8=-128")
    (token.Keyword word.Param ∷ token.Name (codes "k") ∷ token.Symbol sign.Colon ∷ token.Name (codes "Int8") ∷ token.Symbol sign.Is ∷ token.Symbol sign.Minus
    ∷ token.Number 128 0 ∷ []) refl
    (record {
      tail = token.Symbol sign.Minus ∷ token.Number 128 0 ∷ [];
      spelled = refl;
      tail_is =
          record { negative = true; digits = 128; spelled = refl; value = refl; fits = refl };
      counts = _;
    })

pub param_l : HasForm (form.Param (record { name = codes "l"; ty = types.UInt8; start = literal.Number (pos 255) 0 })) (codes "param l:UInt8=255")
unfolding tokens_in keyword_of symbol_of word_at number_at symbol_at number_token bounded_number token_at
param_l =
    has_form (form.Param (record { name = codes "l"; ty = types.UInt8; start = literal.Number (pos 255) 0 })) (codes "param l:UInt8=255")
    (token.Keyword word.Param ∷ token.Name (codes "l") ∷ token.Symbol sign.Colon ∷ token.Name (codes "UInt8") ∷ token.Symbol sign.Is ∷ token.Number 255 0
    ∷ []) refl
    (record {
      tail = token.Number 255 0 ∷ [];
      spelled = refl;
      tail_is =
          record { negative = false; digits = 255; spelled = refl; value = refl; fits = refl };
      counts = _;
    })

pub state_m : HasForm (form.State (record { name = codes "m"; ty = types.Int16; start = literal.Number (pos 0) 0 })) (codes "state m:Int16=0")
unfolding tokens_in keyword_of symbol_of word_at number_at symbol_at number_token bounded_number token_at
state_m =
    has_form (form.State (record { name = codes "m"; ty = types.Int16; start = literal.Number (pos 0) 0 })) (codes "state m:Int16=0")
    (token.Keyword word.State ∷ token.Name (codes "m") ∷ token.Symbol sign.Colon ∷ token.Name (codes "Int16") ∷ token.Symbol sign.Is ∷ token.Number 0 0
    ∷ []) refl
    (record {
      tail = token.Number 0 0 ∷ [];
      spelled = refl;
      tail_is =
          record { negative = false; digits = 0; spelled = refl; value = refl; fits = refl };
      counts = _;
    })

pub state_p : HasForm (form.State (record { name = codes "p"; ty = types.UInt16; start = literal.Number (pos 0) 0 })) (codes "state p:UInt16=0")
unfolding tokens_in keyword_of symbol_of word_at number_at symbol_at number_token bounded_number token_at
state_p =
    has_form (form.State (record { name = codes "p"; ty = types.UInt16; start = literal.Number (pos 0) 0 })) (codes "state p:UInt16=0")
    (token.Keyword word.State ∷ token.Name (codes "p") ∷ token.Symbol sign.Colon ∷ token.Name (codes "UInt16") ∷ token.Symbol sign.Is ∷ token.Number 0 0
    ∷ []) refl
    (record {
      tail = token.Number 0 0 ∷ [];
      spelled = refl;
      tail_is =
          record { negative = false; digits = 0; spelled = refl; value = refl; fits = refl };
      counts = _;
    })

pub state_q : HasForm (form.State (record { name = codes "q"; ty = types.Int32; start = literal.Number (pos 0) 0 })) (codes "state q:Int32=0")
unfolding tokens_in keyword_of symbol_of word_at number_at symbol_at number_token bounded_number token_at
state_q =
    has_form (form.State (record { name = codes "q"; ty = types.Int32; start = literal.Number (pos 0) 0 })) (codes "state q:Int32=0")
    (token.Keyword word.State ∷ token.Name (codes "q") ∷ token.Symbol sign.Colon ∷ token.Name (codes "Int32") ∷ token.Symbol sign.Is ∷ token.Number 0 0
    ∷ []) refl
    (record {
      tail = token.Number 0 0 ∷ [];
      spelled = refl;
      tail_is =
          record { negative = false; digits = 0; spelled = refl; value = refl; fits = refl };
      counts = _;
    })

pub state_r : HasForm (form.State (record { name = codes "r"; ty = types.UInt32; start = literal.Number (pos 0) 0 })) (codes "state r:UInt32=0")
unfolding tokens_in keyword_of symbol_of word_at number_at symbol_at number_token bounded_number token_at
state_r =
    has_form (form.State (record { name = codes "r"; ty = types.UInt32; start = literal.Number (pos 0) 0 })) (codes "state r:UInt32=0")
    (token.Keyword word.State ∷ token.Name (codes "r") ∷ token.Symbol sign.Colon ∷ token.Name (codes "UInt32") ∷ token.Symbol sign.Is ∷ token.Number 0 0
    ∷ []) refl
    (record {
      tail = token.Number 0 0 ∷ [];
      spelled = refl;
      tail_is =
          record { negative = false; digits = 0; spelled = refl; value = refl; fits = refl };
      counts = _;
    })

pub local_x : HasForm (form.Local (record { name = codes "x"; ty = types.Bool })) (codes "local x:Bool")
unfolding tokens_in keyword_of symbol_of word_at number_at symbol_at number_token bounded_number token_at
local_x =
    has_form (form.Local (record { name = codes "x"; ty = types.Bool })) (codes "local x:Bool")
    (token.Keyword word.Local ∷ token.Name (codes "x") ∷ token.Symbol sign.Colon ∷ token.Name (codes "Bool") ∷ []) refl
    (record { tail = []; spelled = refl; tail_is = refl; counts = _ })

pub local_w : HasForm (form.Local (record { name = codes "w"; ty = types.Fixed 9 })) (codes "local w:Fixed 9")
unfolding tokens_in keyword_of symbol_of word_at number_at symbol_at number_token bounded_number token_at
local_w =
    has_form (form.Local (record { name = codes "w"; ty = types.Fixed 9 })) (codes "local w:Fixed 9")
    (token.Keyword word.Local ∷ token.Name (codes "w") ∷ token.Symbol sign.Colon ∷ token.Name (codes "Fixed") ∷ token.Number 9 0 ∷ []) refl
    (record { tail = []; spelled = refl; tail_is = refl; counts = omega arith })

pub if_line : HasForm (form.If (expr.Binary by.Ge (expr.Var (codes "k")) (expr.Var (codes "l")))) (codes "if k>=l")
unfolding tokens_in keyword_of symbol_of word_at number_at symbol_at number_token bounded_number token_at
if_line =
    has_form (form.If (expr.Binary by.Ge (expr.Var (codes "k")) (expr.Var (codes "l")))) (codes "if k>=l")
    (token.Keyword word.If ∷ token.Name (codes "k") ∷ token.Symbol sign.AtLeast ∷ token.Name (codes "l") ∷ []) refl
    (record {
      tail = token.Name (codes "k") ∷ token.Symbol sign.AtLeast ∷ token.Name (codes "l") ∷ [];
      spelled = refl;
      tail_is =
          record { phrase = phrase.Binary by.Ge (phrase.Var (codes "k")) (phrase.Var (codes "l")); is_tree = refl; spelled = refl; is_grammatical = refl };
      counts =
          _;
    })

pub repeat_line : HasForm (form.Repeat 1000) (codes "repeat 1000")
unfolding tokens_in keyword_of symbol_of word_at number_at symbol_at number_token bounded_number token_at
repeat_line =
    has_form (form.Repeat 1000) (codes "repeat 1000") (token.Keyword word.Repeat ∷ token.Number 1000 0 ∷ []) refl
    (record { tail = []; spelled = refl; tail_is = refl; counts = (omega arith, omega arith) })

pub assign_x : HasForm
    (form.Assign (codes "x")
    (expr.Binary by.And (expr.Binary by.Gt (expr.Var (codes "m")) (expr.Var (codes "p")))
    (expr.Binary by.Ne (expr.Unary of.Abs (expr.Var (codes "q"))) (expr.Var (codes "r")))))
    (codes "x:=m>p and abs(q)!=r")
unfolding tokens_in keyword_of symbol_of word_at number_at symbol_at number_token bounded_number token_at
assign_x =
    has_form
    (form.Assign (codes "x")
    (expr.Binary by.And (expr.Binary by.Gt (expr.Var (codes "m")) (expr.Var (codes "p")))
    (expr.Binary by.Ne (expr.Unary of.Abs (expr.Var (codes "q"))) (expr.Var (codes "r")))))
    (codes "x:=m>p and abs(q)!=r")
    (token.Name (codes "x") ∷ token.Symbol sign.Assign ∷ token.Name (codes "m") ∷ token.Symbol sign.Greater ∷ token.Name (codes "p") ∷ token.Keyword word.And
    ∷ token.Keyword word.Abs ∷ token.Symbol sign.Open ∷ token.Name (codes "q") ∷ token.Symbol sign.Close ∷ token.Symbol sign.Differs
    ∷ token.Name (codes "r") ∷ []) refl
    (record {
      tail =
          token.Name (codes "m") ∷ token.Symbol sign.Greater ∷ token.Name (codes "p") ∷ token.Keyword word.And ∷ token.Keyword word.Abs
          ∷ token.Symbol sign.Open ∷ token.Name (codes "q") ∷ token.Symbol sign.Close ∷ token.Symbol sign.Differs ∷ token.Name (codes "r") ∷ [];
      spelled =
          refl;
      tail_is =
          record {
            phrase =
                phrase.Binary by.And (phrase.Binary by.Gt (phrase.Var (codes "m")) (phrase.Var (codes "p")))
                (phrase.Binary by.Ne (phrase.Unary of.Abs (phrase.Var (codes "q"))) (phrase.Var (codes "r")));
            is_tree =
                refl;
            spelled = refl;
            is_grammatical = refl;
          };
      counts =
          _;
    })

pub else_line : HasForm form.Else (codes "else")
unfolding tokens_in keyword_of symbol_of word_at number_at symbol_at number_token bounded_number token_at
else_line = has_form form.Else (codes "else") (token.Keyword word.Else ∷ []) refl (record { tail = []; spelled = refl; tail_is = refl; counts = _ })

pub accept_line : HasForm (form.Accept (expr.Binary by.Min expr.Step (expr.Binary by.Max expr.Time (expr.Number (pos 1) 0)))) (codes "accept min(h,max(t,1))")
unfolding tokens_in keyword_of symbol_of word_at number_at symbol_at number_token bounded_number token_at
accept_line =
    has_form (form.Accept (expr.Binary by.Min expr.Step (expr.Binary by.Max expr.Time (expr.Number (pos 1) 0)))) (codes "accept min(h,max(t,1))")
    (token.Keyword word.Accept ∷ token.Keyword word.Min ∷ token.Symbol sign.Open ∷ token.Keyword word.Length ∷ token.Symbol sign.Comma
    ∷ token.Keyword word.Max ∷ token.Symbol sign.Open ∷ token.Keyword word.Time ∷ token.Symbol sign.Comma ∷ token.Number 1 0 ∷ token.Symbol sign.Close
    ∷ token.Symbol sign.Close ∷ []) refl
    (record {
      tail =
          token.Keyword word.Min ∷ token.Symbol sign.Open ∷ token.Keyword word.Length ∷ token.Symbol sign.Comma ∷ token.Keyword word.Max
          ∷ token.Symbol sign.Open ∷ token.Keyword word.Time ∷ token.Symbol sign.Comma ∷ token.Number 1 0 ∷ token.Symbol sign.Close
          ∷ token.Symbol sign.Close ∷ [];
      spelled =
          refl;
      tail_is =
          record {
            phrase = phrase.Binary by.Min phrase.Step (phrase.Binary by.Max phrase.Time (phrase.Number 1 0));
            is_tree = refl;
            spelled =
                refl;
            is_grammatical = refl;
          };
      counts =
          _;
    })

pub greatest_longest : HasForm (form.Longest (literal.Number (pos 9223372036854775807) 0)) (codes "longest 9223372036854775807")
unfolding tokens_in keyword_of symbol_of word_at number_at symbol_at number_token bounded_number token_at
greatest_longest =
    has_form (form.Longest (literal.Number (pos 9223372036854775807) 0)) (codes "longest 9223372036854775807")
    (token.Keyword word.Longest ∷ token.Number 9223372036854775807 0 ∷ []) refl
    (record { tail = token.Number 9223372036854775807 0 ∷ []; spelled = refl; tail_is = (9223372036854775807, omega arith, refl, refl); counts = _ })

pub step_alone : HasForm form.Step (codes "step")
unfolding tokens_in keyword_of symbol_of word_at number_at symbol_at number_token bounded_number token_at
step_alone = has_form form.Step (codes "step") (token.Keyword word.Step ∷ []) refl (record { tail = []; spelled = refl; tail_is = refl; counts = _ })

pub counter_unit_line : HasForm (form.Unit (codes "Counter")) (codes "unit Counter")
unfolding tokens_in keyword_of symbol_of word_at number_at symbol_at number_token bounded_number token_at
counter_unit_line =
    has_form (form.Unit (codes "Counter")) (codes "unit Counter") (token.Keyword word.Unit ∷ token.Name (codes "Counter") ∷ []) refl
    (record { tail = []; spelled = refl; tail_is = refl; counts = _ })

pub counter_state : HasForm (form.State (record { name = codes "n"; ty = types.Int64; start = literal.Number (pos 0) 0 })) (codes "state n:Int64=0")
unfolding tokens_in keyword_of symbol_of word_at number_at symbol_at number_token bounded_number token_at
counter_state =
    has_form (form.State (record { name = codes "n"; ty = types.Int64; start = literal.Number (pos 0) 0 })) (codes "state n:Int64=0")
    (token.Keyword word.State ∷ token.Name (codes "n") ∷ token.Symbol sign.Colon ∷ token.Name (codes "Int64") ∷ token.Symbol sign.Is ∷ token.Number 0 0
    ∷ []) refl
    (record {
      tail = token.Number 0 0 ∷ [];
      spelled = refl;
      tail_is =
          record { negative = false; digits = 0; spelled = refl; value = refl; fits = refl };
      counts = _;
    })

pub counter_output : HasForm (form.Output (record { name = codes "y"; ty = types.Int64; needs = []; value = expr.Var (codes "n") })) (codes "output y:Int64=n")
unfolding tokens_in keyword_of symbol_of word_at number_at symbol_at number_token bounded_number token_at
counter_output =
    has_form (form.Output (record { name = codes "y"; ty = types.Int64; needs = []; value = expr.Var (codes "n") })) (codes "output y:Int64=n")
    (token.Keyword word.Output ∷ token.Name (codes "y") ∷ token.Symbol sign.Colon ∷ token.Name (codes "Int64") ∷ token.Symbol sign.Is ∷ token.Name (codes "n")
    ∷ []) refl
    (record {
      tail = token.Name (codes "n") ∷ [];
      spelled = refl;
      tail_is =
          record { phrase = phrase.Var (codes "n"); is_tree = refl; spelled = refl; is_grammatical = refl };
      counts = _;
    })

pub counter_sum : HasForm (form.Assign (codes "n") (expr.Binary by.Add (expr.Var (codes "n")) (expr.Number (pos 1) 0))) (codes "n:=n+1")
unfolding tokens_in keyword_of symbol_of word_at number_at symbol_at number_token bounded_number token_at
counter_sum =
    has_form (form.Assign (codes "n") (expr.Binary by.Add (expr.Var (codes "n")) (expr.Number (pos 1) 0))) (codes "n:=n+1")
    (token.Name (codes "n") ∷ token.Symbol sign.Assign ∷ token.Name (codes "n") ∷ token.Symbol sign.Plus ∷ token.Number 1 0 ∷ []) refl
    (record {
      tail = token.Name (codes "n") ∷ token.Symbol sign.Plus ∷ token.Number 1 0 ∷ [];
      spelled = refl;
      tail_is =
          record { phrase = phrase.Binary by.Add (phrase.Var (codes "n")) (phrase.Number 1 0); is_tree = refl; spelled = refl; is_grammatical = refl };
      counts =
          _;
    })

pub counter_instance : HasForm (form.Instance (codes "a") (codes "Counter")) (codes "instance a:Counter")
unfolding tokens_in keyword_of symbol_of word_at number_at symbol_at number_token bounded_number token_at
counter_instance =
    has_form (form.Instance (codes "a") (codes "Counter")) (codes "instance a:Counter")
    (token.Keyword word.Instance ∷ token.Name (codes "a") ∷ token.Symbol sign.Colon ∷ token.Name (codes "Counter") ∷ []) refl
    (record { tail = []; spelled = refl; tail_is = refl; counts = _ })

-- The header with a comment so long that the line has a thousand bytes.
pub long_header : HasForm (form.Header 1) (codes "cosim 1#" ++ letters 991 ++ (13 ∷ []))
unfolding tokens_in keyword_of symbol_of word_at number_at symbol_at number_token bounded_number token_at
long_header =
    has_form (form.Header 1) (codes "cosim 1#" ++ letters 991 ++ (13 ∷ [])) (token.Keyword word.Cosim ∷ token.Number 1 0 ∷ []) refl
    (record { tail = []; spelled = refl; tail_is = refl; counts = (omega arith, omega arith) })

-- ---- Version 2

pub header_2 : HasForm (form.Header 2) (codes "cosim 2")
unfolding tokens_in keyword_of symbol_of word_at number_at symbol_at number_token bounded_number token_at
header_2 =
    has_form (form.Header 2) (codes "cosim 2") (token.Keyword word.Cosim ∷ token.Number 2 0 ∷ []) refl
    (record { tail = []; spelled = refl; tail_is = refl; counts = (omega arith, omega arith) })

pub unit_relay : HasForm (form.Unit (codes "Relay")) (codes "unit Relay")
unfolding tokens_in keyword_of symbol_of word_at number_at symbol_at number_token bounded_number token_at
unit_relay =
    has_form (form.Unit (codes "Relay")) (codes "unit Relay") (token.Keyword word.Unit ∷ token.Name (codes "Relay") ∷ []) refl
    (record { tail = []; spelled = refl; tail_is = refl; counts = _ })

pub event_input : HasForm (form.EventInput (record { name = codes "e"; ty = types.Int64 })) (codes "event input e : Int64")
unfolding tokens_in keyword_of symbol_of word_at number_at symbol_at number_token bounded_number token_at
event_input =
    has_form (form.EventInput (record { name = codes "e"; ty = types.Int64 })) (codes "event input e : Int64")
    (token.Keyword word.Event ∷ token.Keyword word.Input ∷ token.Name (codes "e") ∷ token.Symbol sign.Colon ∷ token.Name (codes "Int64") ∷ []) refl
    (record { tail = []; spelled = refl; tail_is = refl; counts = _ })

pub event_output : HasForm
    (form.EventOutput
    (record {
      name = codes "p";
      ty = types.Fixed 2;
      needs = codes "e" ∷ [];
      value =
          expr.Choose (expr.Present (codes "e")) (expr.Number (pos 50) 2) expr.Absent;
    }))
    (codes "event output p : Fixed 2 needs e = if present(e) then 0.50 else absent")
unfolding tokens_in keyword_of symbol_of word_at number_at symbol_at number_token bounded_number token_at
event_output =
    has_form
    (form.EventOutput
    (record {
      name = codes "p";
      ty = types.Fixed 2;
      needs = codes "e" ∷ [];
      value =
          expr.Choose (expr.Present (codes "e")) (expr.Number (pos 50) 2) expr.Absent;
    }))
    (codes "event output p : Fixed 2 needs e = if present(e) then 0.50 else absent")
    (token.Keyword word.Event ∷ token.Keyword word.Output ∷ token.Name (codes "p") ∷ token.Symbol sign.Colon ∷ token.Name (codes "Fixed") ∷ token.Number 2 0
    ∷ token.Keyword word.Needs ∷ token.Name (codes "e") ∷ token.Symbol sign.Is ∷ token.Keyword word.If ∷ token.Keyword word.Present
    ∷ token.Symbol sign.Open ∷ token.Name (codes "e") ∷ token.Symbol sign.Close ∷ token.Keyword word.Then ∷ token.Number 50 2 ∷ token.Keyword word.Else
    ∷ token.Keyword word.Absent ∷ []) refl
    (record {
      tail =
          token.Keyword word.If ∷ token.Keyword word.Present ∷ token.Symbol sign.Open ∷ token.Name (codes "e") ∷ token.Symbol sign.Close
          ∷ token.Keyword word.Then ∷ token.Number 50 2 ∷ token.Keyword word.Else ∷ token.Keyword word.Absent ∷ [];
      spelled =
          refl;
      tail_is =
          record {
            phrase = phrase.Choose (phrase.Present (codes "e")) (phrase.Number 50 2) phrase.Absent;
            is_tree = refl;
            spelled = refl;
            is_grammatical =
                refl;
          };
      counts =
          omega arith;
    })
