-- The numbers of what can be wrong with a text.
use Rattle.std.specs.Prelude.{ℕ, List, [], ◌∷◌}
use Rattle.audit_lines.specs.declared.faults.AuditFault.{AuditFault}
use Rattle.audit_lines.specs.declared.faults.AuditFault.TheVariants.{Short, Long, Spelling, Differs, Round, Falls, Journal, Load, Count, Invented}

-- a fault's number and arguments
abbrev pub audit_fault_numbers : AuditFault → List ℕ
audit_fault_numbers (Short line) = 60 ∷ line ∷ []
audit_fault_numbers (Long line) = 61 ∷ line ∷ []
audit_fault_numbers (Spelling line) = 62 ∷ line ∷ []
audit_fault_numbers (Differs line) = 63 ∷ line ∷ []
audit_fault_numbers (Round line) = 64 ∷ line ∷ []
audit_fault_numbers (Falls line patch) = 65 ∷ line ∷ patch ∷ []
audit_fault_numbers (Journal line) = 66 ∷ line ∷ []
audit_fault_numbers (Load line) = 67 ∷ line ∷ []
audit_fault_numbers (Count line) = 68 ∷ line ∷ []
audit_fault_numbers (Invented line patch) = 69 ∷ line ∷ patch ∷ []
