use Rattle.std.proofs.Common.{[], ap, refl}
use Rattle.cx_text.specs.declared.rules.Rule.TheVariants as rules
use Rattle.cx_commands.specs.Unread.{rule_of}
use Rattle.cx_commands.proofs.UnreadLemmas.{no_token}
use Rattle.cx_commands.proofs.reading.of_lex.Goals as goal

pub returns-in-BadByte : goal.returns-in-BadByte
returns-in-BadByte c = no_token c.args.fault rules.BadByte [] c.refused.result refl (ap rule_of c.in-BadByte.is) c.refused.ensures

pub returns-in-OpenComment : goal.returns-in-OpenComment
returns-in-OpenComment c = no_token c.args.fault rules.OpenComment [] c.refused-in-OpenComment.result refl (ap rule_of c.in-OpenComment.is) c.refused-in-OpenComment.ensures

pub returns-in-OpenString : goal.returns-in-OpenString
returns-in-OpenString c = no_token c.args.fault rules.OpenString [] c.refused-in-OpenString.result refl (ap rule_of c.in-OpenString.is) c.refused-in-OpenString.ensures

pub returns-in-BadLiteral : goal.returns-in-BadLiteral
returns-in-BadLiteral c = no_token c.args.fault rules.BadLiteral [] c.refused-in-BadLiteral.result refl (ap rule_of c.in-BadLiteral.is) c.refused-in-BadLiteral.ensures
