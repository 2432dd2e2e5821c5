-- Laws of how a call ends.
use Rattle.std.proofs.Common.{◌≡◌, ◌⊎◌, inl, inr, refl, sym, ap, ◌∙◌, Ok, subst}
use Rattle.cov_io.specs.Sinks.{Sunk, Writes}
use Rattle.call_reports.specs.Ends.{Ends}
use Rattle.call_reports.specs.Replies.{Reply, status_of}
use Rattle.call_reports.specs.Reports.{report_of}
use Rattle.call_reports.specs.declared.answers.Status.{Status}
use Rattle.call_reports.specs.declared.answers.Status.TheVariants as s

-- a call that ends with one reply ends with another, if that follows
pub ends_onward : (does does' : Reply → Type 0) (old new : Sunk) (status : Status) → ((reply : Reply) → does reply → does' reply)
    → Ends does old new status → Ends does' old new status
ends_onward does does' old new s.NoMemory each h = h
ends_onward does does' old new s.WriteFault each (reply, h, e, w) = (reply, each reply h, e, w)
ends_onward does does' old new s.Done each (reply, h, e, w) = (reply, each reply h, e, w)
ends_onward does does' old new s.Refused each (reply, h, e, w) = (reply, each reply h, e, w)
ends_onward does does' old new s.Usage each (reply, h, e, w) = (reply, each reply h, e, w)
ends_onward does does' old new s.Malformed each (reply, h, e, w) = (reply, each reply h, e, w)
ends_onward does does' old new s.ReadFault each (reply, h, e, w) = (reply, each reply h, e, w)
ends_onward does does' old new s.TooLong each (reply, h, e, w) = (reply, each reply h, e, w)
ends_onward does does' old new s.Differ each (reply, h, e, w) = (reply, each reply h, e, w)
ends_onward does does' old new s.BadStarts each (reply, h, e, w) = (reply, each reply h, e, w)

-- the status of a call that ends with a reply, unless memory ran out or the write failed
pub status_is : (reply : Reply) (old new : Sunk) (status : Status) → Ends (λ r. r ≡ reply) old new status
    → (status ≡ s.NoMemory) ⊎ (status ≡ s.WriteFault) ⊎ (status ≡ status_of reply)
status_is reply old new s.NoMemory h = inl refl
status_is reply old new s.WriteFault h = inr (inl refl)
status_is reply old new s.Done (r, e, is, w) = inr (inr (is ∙ ap status_of e))
status_is reply old new s.Refused (r, e, is, w) = inr (inr (is ∙ ap status_of e))
status_is reply old new s.Usage (r, e, is, w) = inr (inr (is ∙ ap status_of e))
status_is reply old new s.Malformed (r, e, is, w) = inr (inr (is ∙ ap status_of e))
status_is reply old new s.ReadFault (r, e, is, w) = inr (inr (is ∙ ap status_of e))
status_is reply old new s.TooLong (r, e, is, w) = inr (inr (is ∙ ap status_of e))
status_is reply old new s.Differ (r, e, is, w) = inr (inr (is ∙ ap status_of e))
status_is reply old new s.BadStarts (r, e, is, w) = inr (inr (is ∙ ap status_of e))

-- A call that is done put the whole report of its reply.
pub done_put : (reply : Reply) (old new : Sunk) (status : Status) → status ≡ s.Done → Ends (λ r. r ≡ reply) old new status
    → (status_of reply ≡ s.Done) × Writes old new (report_of reply) (Ok tt)
done_put reply old new status done ended = by (subst (Ends (λ r. r ≡ reply) old new) done ended)
  where
    by : Ends (λ r. r ≡ reply) old new s.Done → (status_of reply ≡ s.Done) × Writes old new (report_of reply) (Ok tt)
    by (r, e, is, w) = (ap status_of (sym e) ∙ sym is, subst (λ q. Writes old new (report_of q) (Ok tt)) e w)
