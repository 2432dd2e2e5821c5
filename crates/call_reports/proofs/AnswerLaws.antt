-- Laws of steps: what gives one reply gives another, if that follows.
use Rattle.std.proofs.Common.{Result, Ok, Err}
use Rattle.call_reports.specs.AnswerViews.{Stops, Gets}
use Rattle.call_reports.specs.Replies.{Reply}
use Rattle.call_reports.specs.declared.answers.Answer.{Answer}
use Rattle.call_reports.specs.declared.answers.Stop.{Stop}
use Rattle.call_reports.specs.declared.answers.Stop.TheVariants as stops

-- what gives one reply gives another, if that follows
pub stops_onward : (does does' : Reply → Type 0) (stop : Stop) → ((reply : Reply) → does reply → does' reply) → Stops does stop → Stops does' stop
stops_onward does does' (stops.Answer answer) each h = each _ h
stops_onward does does' stops.NoMemory each h = tt

pub gets_onward : (does does' : Reply → Type 0) (r : Result Answer Stop) → ((reply : Reply) → does reply → does' reply) → Gets does r → Gets does' r
gets_onward does does' (Ok answer) each h = each _ h
gets_onward does does' (Err stop) each h = stops_onward does does' stop each h
