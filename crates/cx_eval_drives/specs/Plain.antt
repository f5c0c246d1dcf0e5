-- What a truth stands for.
use Rattle.cx_meaning.specs.Truths as truths
use Rattle.cx_eval_drives.specs.declared.truths.Truth.{Truth}
use Rattle.cx_eval_drives.specs.declared.truths.Truth.TheVariants.{One, Zero, Conflict, Undefined}

abbrev pub plain_truth : Truth → truths.Truth
plain_truth One = truths.One
plain_truth Zero = truths.Zero
plain_truth Conflict = truths.Conflict
plain_truth Undefined = truths.Undefined
