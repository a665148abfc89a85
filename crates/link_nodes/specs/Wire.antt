-- Facts as bytes: 22, all fields big-endian. A fact can be encoded where it is short (`is_short` of link_laws).
use Rattle.std.specs.Prelude.{ℕ, ◌<◌, ◌^◌, true, false, pos, List, ◌∷◌, ◌++◌, FitsSigned}
use Rattle.std.specs.Int.{w32, w64, to_be_bytes, cast_unsigned}
use Rattle.fixed_words.specs.declared.types.Fault.{Fault}
use Rattle.fixed_words.specs.declared.types.Fault.TheVariants.{Overflow, Range, ZeroDivisor, Accept, Max}
use Rattle.link_laws.specs.declared.fact.Asked.TheVariants as asked
use Rattle.link_laws.specs.declared.fact.Fact.{Fact}
use Rattle.link_laws.specs.declared.fact.Fact.TheVariants.{Word, Limit, Reply}
use Rattle.link_laws.specs.declared.fact.Said.TheVariants as said
use Rattle.link_laws.specs.declared.fact.Seen.TheVariants as seen
use Rattle.link_nodes.specs.declared.fields.Fields.{Fields}

-- The tag of a fault.
abbrev pub tag_of : Fault → ℕ
tag_of Overflow = 1
tag_of Range = 2
tag_of ZeroDivisor = 3
tag_of Accept = 4
tag_of Max = 5

-- The fields of a fact. With the tag 0 they have a number; 6 says that an output is undefined, and 7 that there is no limit.
abbrev pub fields_of : Fact → Fields
fields_of (Word row place (seen.Is word)) = record { kind = 1; row = row; place = place; tag = 0; number = word }
fields_of (Word row place (seen.Fault fault)) = record { kind = 1; row = row; place = place; tag = tag_of fault; number = pos 0 }
fields_of (Word row place seen.Undefined) = record { kind = 1; row = row; place = place; tag = 6; number = pos 0 }
fields_of (Limit row instance asked.Free) = record { kind = 2; row = row; place = instance; tag = 7; number = pos 0 }
fields_of (Limit row instance (asked.Max local)) = record { kind = 2; row = row; place = instance; tag = 0; number = pos local }
fields_of (Limit row instance (asked.Fault fault)) = record { kind = 2; row = row; place = instance; tag = tag_of fault; number = pos 0 }
fields_of (Reply row instance false (said.Accepted accepted)) = record { kind = 3; row = row; place = instance; tag = 0; number = pos accepted }
fields_of (Reply row instance false (said.Fault fault)) = record { kind = 3; row = row; place = instance; tag = tag_of fault; number = pos 0 }
fields_of (Reply row instance true (said.Accepted accepted)) = record { kind = 4; row = row; place = instance; tag = 0; number = pos accepted }
fields_of (Reply row instance true (said.Fault fault)) = record { kind = 4; row = row; place = instance; tag = tag_of fault; number = pos 0 }

-- The bytes of fields: the kind, the row in 8, the place or the instance in 4, the tag, and the number in 8.
abbrev pub written : Fields → List ℕ
written f = f.kind ∷ (to_be_bytes w64 f.row ++ (to_be_bytes w32 f.place ++ (f.tag ∷ to_be_bytes w64 (cast_unsigned w64 f.number))))

-- The encoding of a fact.
abbrev pub encoding : Fact → List ℕ
encoding fact = written (fields_of fact)

-- The numbers of a fact are those of its types. They are, where the type of the fact is known.
abbrev pub HasTypes : Fact → Type 0
HasTypes (Word row place (seen.Is word)) = (place < 2 ^ 32) × FitsSigned w64 word
HasTypes (Word row place seen) = place < 2 ^ 32
HasTypes (Limit row instance asked) = instance < 2 ^ 32
HasTypes (Reply row instance redo said) = instance < 2 ^ 32
