use Rattle.option_command.proofs.Parts.{one_address}
use Rattle.option_command.proofs.forms.has_form.Goals as goal

pub returns-in-Address : goal.returns-in-Address
returns-in-Address c = rw c.in-Address.is (one_address c.is_address.result c.args.text.now c.is_address.ensures)
