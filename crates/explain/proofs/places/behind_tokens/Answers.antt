use Rattle.explain.proofs.FollowLaws.{all_found}
use Rattle.explain.proofs.places.behind_tokens.Goals as goal

pub returns : goal.returns
returns c =
    all_found c.args.tokens.now c.add_possible.new.tokens c.add_possible-2.new.tokens c.add_table.new.tokens
    c.new-found.result c.add_possible.new.found c.add_possible-2.new.found c.add_table.new.found c.add_possible-3.new.found
    c.new-found.ensures c.in_ok-add_possible.ensures.tokens c.in_ok-add_possible-2.ensures.tokens c.in_ok-add_table.ensures.tokens
    c.in_ok-add_possible.ensures.found c.in_ok-add_possible-2.ensures.found c.in_ok-add_table.ensures.found c.in_ok-add_possible-3.ensures.found
