-- A program without its places: what two texts that differ in blanks, comments and brackets alone have in common.
use Rattle.std.specs.Prelude.{map}
use Rattle.cov_ast.specs.Syntax as s
use Rattle.cov_ast.specs.declared.parsed.NameUse.{NameUse}
use Rattle.statement_parts.specs.Mapped.{mapped, mapped_in, Mapping, same_parts}

-- what each part of a statement becomes: the places alone go
abbrev pub without_places : Mapping
without_places = record same_parts { place = λ at. 0 }

abbrev pub unplaced_stm : s.Stm → s.Stm
unplaced_stm c = mapped without_places c

abbrev pub unplaced_block : s.Block → s.Block
unplaced_block b = mapped_in without_places b

abbrev pub unplaced_var : s.Var → s.Var
unplaced_var v = record { name = v.name; at = 0; class = v.class }

abbrev pub unplaced_lock : s.Lock → s.Lock
unplaced_lock l = record { name = l.name; at = 0; nowrite = l.nowrite; hide = l.hide; inv = l.inv }

abbrev pub unplaced_thread : s.Thread → s.Thread
unplaced_thread t = record { name = t.name; at = 0; modes = t.modes; body = unplaced_block t.body; end = 0 }

abbrev pub unplaced_use : NameUse → NameUse
unplaced_use u = record { name = u.name; lock = u.lock; at = 0 }

-- Every place is 0.
abbrev pub unplaced : s.Parsed → s.Parsed
unplaced p = record {
  version = p.version;
  names = p.names;
  uses = map unplaced_use p.uses;
  vars = map unplaced_var p.vars;
  locks = map unplaced_lock p.locks;
  threads = map unplaced_thread p.threads;
}
