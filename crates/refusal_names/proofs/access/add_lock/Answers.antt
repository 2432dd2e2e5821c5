use Rattle.std.proofs.Common.{codes}
use Rattle.refusal_names.specs.ForbiddenAccess.{declared_text, list_text}
use Rattle.refusal_names.proofs.LineLaws.{two_pieces}
use Rattle.refusal_names.proofs.access.add_lock.Goals as goal

pub returns : goal.returns
returns c =
    two_pieces c.add_list.result c.args.text.now (declared_text c.args.bytes.now (codes "lock") c.args.lock.now.name c.args.lock.now.at)
    (list_text c.args.names.now (codes ", has `") c.args.word.now c.args.x (codes "`, and isn't held here; held: ")) c.add_declared.new.text c.add_list.new.text
    c.in_ok-add_declared.ensures c.add_list.ensures
