-- The texts are read as they should, by computing.
use Rattle.std.proofs.Common.{refl}
use Rattle.grammar.specs.Tokens.{token_at}
use Rattle.grammar.specs.Expressions.{read_expr}
use Rattle.grammar.specs.Statements.{read_values}
use Rattle.grammar.specs.Reading.{read_rest, reading}
use Rattle.grammar.specs.ReadingCases.{Scripts, Refusals, Limits}

pub scripts : Scripts
unfolding token_at read_expr read_values read_rest reading
scripts = record {
  nothing = refl;
  own = refl;
  all = refl;
  guarded = refl;
  twos = refl;
  behind = refl;
  under_if = refl;
  under_when = refl;
  altered = refl;
}

pub refusals : Refusals
unfolding token_at read_expr read_values read_rest reading
refusals = record {
  written_inside = refl;
  no_token = refl;
  ends_early = refl;
  keyword_for_name = refl;
  closes_nothing = refl;
  nothing_added = refl;
  unknown = refl;
  cursor_alone = refl;
  variable_dotted = refl;
  not_in_its_label = refl;
  not_in_its_lot = refl;
  taken = refl;
  no_family = refl;
  no_table = refl;
  no_vendor = refl;
  no_column = refl;
  too_many = refl;
  too_few = refl;
  third_vendors = refl;
  ninth_paren = refl;
  ninth_block = refl;
}

pub limits : Limits
unfolding token_at read_expr read_values read_rest reading
limits = record {
  bytes = refl;
  one_byte_more = refl;
  statements = refl;
  one_statement_more = refl;
  no_statement = refl;
  atoms = refl;
  one_atom_more = refl;
  wrong_name_first = refl;
  names = refl;
  one_name_more = refl;
  taken_first = refl;
}
